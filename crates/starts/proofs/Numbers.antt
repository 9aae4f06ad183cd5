-- A start's steps where a refusal is a number: refused by the number that is given, or as a start is that nothing refused before.
use Prim.Native.Nat.{ℕ, zero, suc}
use mathlib.Core.Path.{◌≡◌, refl, sym, ap}
use mathlib.Core.Bool.{Bool}
use mathlib.Core.List.{List}
use Rattle.std.specs.Prelude.{Result, Ok, Err}
use Rattle.model.specs.declared.Flags.{Flags}
use Rattle.model.specs.declared.Refusal.{Refusal}
use Rattle.model.specs.Refusals.{numbered}
use Rattle.model.proofs.RefusalLaws.{number-some}
use Rattle.session.specs.declared.Session.{Session}
use Rattle.starts.specs.declared.Sought.{Sought}
use Rattle.starts.specs.Steps.{or_else, SoughtFrom, decided_stored}
use Rattle.starts.specs.ByNumber.{SoughtByNumber}

pub or-first : (k j : ℕ) → (k ≡ 0 → ⊥) → or_else k j ≡ k
or-first zero j n = absurd (n refl)
or-first (suc k) j n = refl

module _ (tb : List ℕ) (c : Session) (b w : ℕ) where
  pub number-first : (k : ℕ) → (k ≡ 0 → ⊥) → SoughtByNumber tb c b w k (Err k)
  number-first k n = record { refusal = sym (or-first k _ n); some = λ e. n cc; seeks = λ y e. cc }

  pub number-sought : {k : ℕ} → k ≡ 0 → {x : Result Sought Refusal} → SoughtFrom tb c b w 0 x → SoughtByNumber tb c b w k (numbered x)
  number-sought z {x} s = rw z (go x s)
    where
      go : (x : Result Sought Refusal) → SoughtFrom tb c b w 0 x → SoughtByNumber tb c b w 0 (numbered x)
      go (Ok x) s = record { refusal = s.refusal; some = λ e. cc; seeks = λ y e. let p : x ≡ y = cc in s.seeks y (ap Ok p) }
      go (Err r) s = record { refusal = s.refusal; some = λ e. number-some r cc; seeks = λ y e. cc }

pub decided-first : (k j : ℕ) → (k ≡ 0 → ⊥) → (tb : List ℕ) (c : Session) (b : ℕ) (f : Flags) (fin : Bool)
    → Err k ≡ decided_stored (or_else k j) tb c b f fin
decided-first zero j n tb c b f fin = absurd (n refl)
decided-first (suc k) j n tb c b f fin = refl
