-- Sums as a loop makes them: a turn, and the end.
use Prim.Native.Nat.{ℕ, ◌+◌, ◌≤◌, ◌<◌}
use mathlib.Core.Path.{◌≡◌, ◌∙◌}
use mathlib.Core.List.{List}
use native.Mathlib.Omega.{arith}
use lib.ListN.{length, get_or, take, drop, drop_of_length-le}
use lib.Seq.{get_or-take, length-take-le}
use Rattle.std.proofs.lemmas.List.Sums.{sum_by-drop_more}
use Rattle.places.specs.PlaceTests.{total}

module _ (l : List ℕ) (i : ℕ) where
  pub total-step : i < length l → total (drop i l) ≡ get_or l i 0 + total (drop (i + 1) l)
  total-step h = sum_by-drop_more (λ (x : ℕ). x) l i 0 h

  pub total-end : length l ≤ i → total (drop i l) ≡ 0
  total-end h = rw (drop_of_length-le l h)

-- the same over the first n elements
module _ (l : List ℕ) (n : ℕ) (fits : n ≤ length l) (i : ℕ) where
  pub total-take-step : i < n → total (drop i (take n l)) ≡ get_or l i 0 + total (drop (i + 1) (take n l))
  total-take-step h = total-step (take n l) i (omega (arith, length-take-le n l fits)) ∙ rw (get_or-take n l i 0 h)

  pub total-take-end : n ≤ i → total (drop i (take n l)) ≡ 0
  total-take-end h = total-end (take n l) i (omega (arith, length-take-le n l fits))
