-- Laws of the sum over a list, for any weight of its elements: by the words of specs/Lists.antt.
use Prim.Native.Nat.{ℕ, zero, suc, ◌+◌, ◌*◌, ◌≤◌, ◌<◌}
use mathlib.Core.Path.{◌≡◌, refl}
use mathlib.Core.List.{List, [], ◌∷◌}
use native.Mathlib.Nat.{not-suc-le-zero, le_of_suc-le-suc}
use native.Mathlib.Omega.{arith}
use lib.ListN.{length, get_or, set}
use Rattle.model.specs.Lists.{omit, put_second, to_front, on_first, sum_of, All}

module _ {A : Type 0} (weight : A → ℕ) where
  -- ---- no element comes or goes

  sum-put_second : (x : A) (xs : List A) → sum_of weight (put_second x xs) ≡ weight x + sum_of weight xs
  sum-put_second x [] = refl
  sum-put_second x (y ∷ ys) = omega arith

  pub sum-to_front : (k : ℕ) (xs : List A) → sum_of weight (to_front k xs) ≡ sum_of weight xs
  sum-to_front k [] = refl
  sum-to_front zero (x ∷ xs) = refl
  sum-to_front (suc k) (x ∷ xs) = omega (arith, sum-put_second x (to_front k xs), sum-to_front k xs)

  -- ---- one goes

  pub sum-omit : (d : A) (i : ℕ) (xs : List A) → i < length xs → sum_of weight (omit i xs) + weight (get_or xs i d) ≡ sum_of weight xs
  sum-omit d i [] l = absurd (not-suc-le-zero l)
  sum-omit d zero (x ∷ xs) l = omega arith
  sum-omit d (suc i) (x ∷ xs) l = omega (arith, sum-omit d i xs (le_of_suc-le-suc l))

  -- ---- one becomes another

  pub sum-set : (d : A) (k : ℕ) (y : A) (xs : List A) → k < length xs
      → sum_of weight (set xs k y) + weight (get_or xs k d) ≡ sum_of weight xs + weight y
  sum-set d k y [] l = absurd (not-suc-le-zero l)
  sum-set d zero y (x ∷ xs) l = omega arith
  sum-set d (suc k) y (x ∷ xs) l = omega (arith, sum-set d k y xs (le_of_suc-le-suc l))

  pub sum-on_first : (d : A) (f : A → A) (xs : List A) → 1 ≤ length xs
      → sum_of weight (on_first f xs) + weight (get_or xs 0 d) ≡ sum_of weight xs + weight (f (get_or xs 0 d))
  sum-on_first d f [] l = absurd (not-suc-le-zero l)
  sum-on_first d f (x ∷ xs) l = omega arith

  -- ---- bounds

  pub sum-most : (m : ℕ) (xs : List A) → All (λ x. weight x ≤ m) xs → sum_of weight xs ≤ length xs * m
  sum-most m [] h = omega arith
  sum-most m (x ∷ xs) h = omega (arith, h.0, sum-most m xs h.1)
