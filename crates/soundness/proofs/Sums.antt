-- Sums of bytes: their most, and what equal sums say of what stands beyond a place.
use Prim.Native.Nat.{ℕ, suc, ◌+◌, ◌*◌, ◌≤◌, ◌<◌, zero-le, suc-le-suc}
use mathlib.Core.Path.{◌≡◌, refl, sym, ◌∙◌, ap}
use mathlib.Core.Bool.{Bool, true, false, ◌&&◌, false≢true}
use mathlib.Core.List.{List, [], ◌∷◌}
use native.Mathlib.Nat.{mul-suc}
use native.Mathlib.Omega.{arith}
use lib.Dec.{eqb}
use lib.ListN.{length, get_or, take, drop}
use borrow.Author.Tests.{eq-eqb, eqb-true}
use Rattle.std.proofs.lemmas.List.Sums.{sum_by-cons, sum_by-take-drop}
use Rattle.std.specs.Prelude.{if◌then◌else◌}
use Rattle.model.specs.Lists.{all}
use Rattle.model.proofs.Logic.{Decides}
use Rattle.model.proofs.Walks.{sum-zero}
use Rattle.places.specs.PlaceTests.{total, no_sum}

total-split : (h : ℕ) (l : List ℕ) → total (take h l) + total (drop h l) ≡ total l
total-split h l = sum_by-take-drop (λ (x : ℕ). x) l h

-- a sum is 0 where each number is
pub total-zero : (l : List ℕ) → eqb 0 (total l) ≡ all (eqb 0) l
total-zero [] = refl
total-zero (x ∷ xs) = ap (eqb 0) (sum_by-cons (λ (y : ℕ). y) x xs) ∙ sum-zero x (total xs) ∙ ap (λ (b : Bool). eqb 0 x && b) (total-zero xs)

pub total-most : (m : ℕ) (l : List ℕ) → ((i : ℕ) → i < length l → get_or l i 0 ≤ m) → total l ≤ m * length l
total-most m [] h = zero-le
total-most m (x ∷ xs) h =
    let a = h 0 (suc-le-suc zero-le) in
    let b = total-most m xs (λ i l. h (suc i) (suc-le-suc l)) in
    rw (mul-suc m (length xs), sum_by-cons (λ (y : ℕ). y) x xs) (omega arith)

module _ (h : ℕ) (l : List ℕ) where
  -- the first h have the sum of all exactly where 0 stands beyond them
  rest-zero : total (take h l) ≡ total l → all (eqb 0) (drop h l) ≡ true
  rest-zero e =
      let z : 0 ≡ total (drop h l) = omega (arith, total-split h l) in
      sym (total-zero (drop h l)) ∙ eq-eqb 0 (total (drop h l)) z

  rest_sum : all (eqb 0) (drop h l) ≡ true → total (take h l) ≡ total l
  rest_sum e =
      let z = eqb-true 0 (total (drop h l)) (total-zero (drop h l) ∙ e) in
      omega (arith, total-split h l)

  -- the test that a sum made where b holds is that of all
  pub used-sum-decides : (b : Bool) → total l < no_sum
      → Decides (eqb (if b then total (take h l) else no_sum) (total l)) ((b ≡ true) × (all (eqb 0) (drop h l) ≡ true))
  used-sum-decides true few =
      record { holds = λ e. (refl, rest-zero (eqb-true _ _ e)); shows = λ k. eq-eqb (total (take h l)) (total l) (rest_sum k.1) }
  used-sum-decides false few =
      record {
        holds = λ e. let f : no_sum ≡ total l = eqb-true _ _ e in absurd (omega arith);
        shows = λ k. absurd (false≢true k.0);
      }
