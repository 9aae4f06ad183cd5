-- A number of two or three digits is the number of its tens and one digit more.
use Prim.Native.Nat.{ℕ, ◌/◌, ◌%◌, ◌≤◌, ◌<◌}
use mathlib.Core.Path.{◌≡◌, refl}
use mathlib.Core.Bool.{Bool, true, false}
use mathlib.Core.List.{[], ◌∷◌, ◌++◌}
use native.Mathlib.Omega.{arith}
use lib.Dec.{ltb}
use borrow.Author.Tests.{ltb-true, ltb-false}
use Rattle.model.specs.Player.{digit, decimal}
use Rattle.line.proofs.LineLaws.{decimal-one, decimal-two, decimal-three}

pub decimal-last : (x : ℕ) → 10 ≤ x → x < 1000 → decimal x ≡ decimal (x / 10) ++ digit (x % 10) ∷ []
decimal-last x l h = go (ltb x 100) refl
  where
    go : (b : Bool) → ltb x 100 ≡ b → decimal x ≡ decimal (x / 10) ++ digit (x % 10) ∷ []
    go true e = let f = ltb-true x 100 e in rw (decimal-two x l f, decimal-one (x / 10) (omega arith))
    go false e =
        let f = ltb-false x 100 e in
        let d : x / 10 / 10 ≡ x / 100 = omega arith in
        rw (decimal-three x f, decimal-two (x / 10) (omega arith) (omega arith), d)
