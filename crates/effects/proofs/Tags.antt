-- What holds of each change of a `match` arm holds of the change that is matched.
use mathlib.Core.Path.{◌≡◌, sym, subst}
use mathlib.Core.Logic.{◌⊎◌, inl, inr}
use mathlib.Core.List.{List, [], ◌∷◌}
use Rattle.model.specs.declared.Change.{Change}
use Rattle.model.specs.Lists.{All}

-- a change is one of these, as an arm says it
abbrev pub OneOf : List Change → Change → Type 0
OneOf [] c = ⊥
OneOf (d ∷ []) c = c ≡ d
OneOf (d ∷ e ∷ ds) c = (c ≡ d) ⊎ OneOf (e ∷ ds) c

pub of-change : (P : Change → Type 0) (c : Change) (ds : List Change) → All P ds → OneOf ds c → P c
of-change P c [] h e = absurd e
of-change P c (d ∷ []) h e = subst P (sym e) h.0
of-change P c (d ∷ f ∷ ds) h (inl e) = subst P (sym e) h.0
of-change P c (d ∷ f ∷ ds) h (inr e) = of-change P c (f ∷ ds) h.1 e
