-- What a record asks for, as an arm of a `match` says it.
use mathlib.Core.Path.{◌≡◌, refl}
use mathlib.Core.Bool.{Bool, true, false}
use mathlib.Core.Logic.{◌⊎◌, inl, inr}
use Rattle.std.specs.Prelude.{Option, None, Some}
use Rattle.records.specs.declared.Asked.{Asked}

-- a start, finishing or not
abbrev pub is_starting : Option Asked → Bool
is_starting (Some Asked.Launch) = false
is_starting (Some Asked.Start) = true
is_starting (Some Asked.FinishingStart) = true
is_starting (Some Asked.Back) = false
is_starting (Some Asked.Look) = false
is_starting None = false

pub tag-starts : (a : Option Asked) → (a ≡ Some Asked.Start) ⊎ (a ≡ Some Asked.FinishingStart) → is_starting a ≡ true
tag-starts a (inl e) = rw e refl
tag-starts a (inr e) = rw e refl

pub tag-others : (a : Option Asked) → (a ≡ Some Asked.Launch) ⊎ ((a ≡ Some Asked.Back) ⊎ ((a ≡ Some Asked.Look) ⊎ (a ≡ None)))
    → is_starting a ≡ false
tag-others a (inl e) = rw e refl
tag-others a (inr (inl e)) = rw e refl
tag-others a (inr (inr (inl e))) = rw e refl
tag-others a (inr (inr (inr e))) = rw e refl
