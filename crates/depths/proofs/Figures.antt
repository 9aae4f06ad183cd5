-- A number in base ten, by how many digits it has; and the line of a report, number by number.
use Prim.Native.Nat.{ℕ, ◌/◌, ◌%◌, ◌≤◌, ◌<◌}
use mathlib.Core.Path.{◌≡◌, refl, ◌∙◌}
use mathlib.Core.Bool.{Bool, true, false}
use mathlib.Core.List.{List, [], ◌∷◌, ◌++◌}
use native.Mathlib.Omega.{arith}
use lib.Dec.{ltb}
use lib.ListN.{length}
use lib.Seq.{append_snoc}
use borrow.Author.Tests.{lt-ltb, le-ltb, ltb-true, ltb-false}
use Rattle.model.specs.Player.{digit, decimal}
use Rattle.model.proofs.WrittenLaws.{Wrote, wrote-append}
use Rattle.line.proofs.LineLaws.{decimal-one, decimal-two, decimal-three, decimal-length}
use Rattle.depths.specs.Reports.{figures}

module _ (n : ℕ) where
  pub figures-few : n < 1000 → figures n ≡ decimal n
  unfolding figures
  figures-few h = rw (lt-ltb n 1000 h)

  tens : n / 10 < 1000 → figures (n / 10) ≡ decimal (n / 10)
  unfolding figures
  tens h = rw (lt-ltb (n / 10) 1000 h)

  figures-three : 100 ≤ n → n < 1000 → figures n ≡ decimal (n / 10) ++ digit (n % 10) ∷ []
  figures-three l h =
      let d : n / 10 / 10 ≡ n / 100 = omega arith in
      figures-few h ∙ rw (decimal-three n l, decimal-two (n / 10) (omega arith) (omega arith), d)

  figures-four : 1000 ≤ n → n < 10000 → figures n ≡ decimal (n / 10) ++ digit (n % 10) ∷ []
  unfolding figures
  figures-four l h =
      let d : n / 10 / 100 ≡ n / 1000 = omega arith in
      let e : n / 10 / 10 ≡ n / 100 = omega arith in
      rw (le-ltb n 1000 l, decimal-one (n / 1000) (omega arith), decimal-three (n / 10) (omega arith), d, e)

  figures-five : 10000 ≤ n → n < 100000 → figures n ≡ figures (n / 10) ++ digit (n % 10) ∷ []
  unfolding figures
  figures-five l h =
      let d : n / 10 / 1000 ≡ n / 1000 / 10 = omega arith in
      let e : n / 10 / 100 ≡ n / 1000 = omega arith in
      let f : n / 10 / 10 ≡ n / 100 = omega arith in
      rw (le-ltb n 1000 (omega arith), le-ltb (n / 10) 1000 (omega arith), d, decimal-one (n / 1000 / 10) (omega arith), decimal-two (n / 1000) (omega arith) (omega arith), e, f)

  -- those of its tens, and one digit more
  pub figures-more : 100 ≤ n → n < 100000 → figures n ≡ figures (n / 10) ++ digit (n % 10) ∷ []
  figures-more l h = go (ltb n 1000) refl (ltb n 10000) refl
    where
      go : (b : Bool) → ltb n 1000 ≡ b → (c : Bool) → ltb n 10000 ≡ c → figures n ≡ figures (n / 10) ++ digit (n % 10) ∷ []
      go true e c f = let k = ltb-true n 1000 e in rw (tens (omega arith)) (figures-three l k)
      go false e true f = let j = ltb-false n 1000 e in let k = ltb-true n 10000 f in rw (tens (omega arith)) (figures-four j k)
      go false e false f = let j = ltb-false n 10000 f in figures-five j h

-- no more than four digits
pub figures-short : (n : ℕ) → n < 10000 → length (figures n) ≤ 4
unfolding figures
figures-short n h = go (ltb n 1000) refl
  where
    go : (b : Bool) → ltb n 1000 ≡ b → length (figures n) ≤ 4
    go true e = rw e (omega (arith, decimal-length n))
    go false e = let j = ltb-false n 1000 e in rw (e, decimal-one (n / 1000) (omega arith)) (omega arith)

-- a number and the byte behind it, then the rest of the line
pub figures-then : (n x : ℕ) (rest : List ℕ) {d d' d'' : List ℕ} {at m r : ℕ}
    → Wrote d at (figures n ++ x ∷ []) d' m → m ≤ length d → Wrote d' m rest d'' r → Wrote d at (figures n ++ x ∷ rest) d'' r
figures-then n x rest v fits w = rw append_snoc at (wrote-append v fits w)
