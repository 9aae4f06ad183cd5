-- `calls::edition_named` meets its contract, by whether the edition is 0.
use Prim.Native.Nat.{ℕ, zero, suc}
use mathlib.Core.Path.{◌≡◌, refl}
use Rattle.model.specs.Calls.{edition_named}
use Rattle.calls.proofs.edition_named.Goals as goal

itself : (e : ℕ) → (e ≡ 0 → ⊥) → e ≡ edition_named e
itself zero n = absurd (n refl)
itself (suc e) n = refl

pub returns-then-edition-eq0 : goal.returns-then-edition-eq0
returns-then-edition-eq0 c = rw c.if-edition-eq0.true

pub returns : goal.returns
returns c = itself c.args.edition c.if-edition-eq0.false
