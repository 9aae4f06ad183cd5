-- What n elements leave of a list that may be shorter.
use Prim.Native.Nat.{ℕ, zero, suc}
use mathlib.Core.Path.{◌≡◌, refl, ap}
use mathlib.Core.List.{List, [], ◌∷◌}
use lib.ListN.{length, take, drop}

module _ {A : Type 0} where
  pub take-taken : (n : ℕ) (l : List A) → take (length (take n l)) l ≡ take n l
  take-taken zero l = refl
  take-taken (suc n) [] = refl
  take-taken (suc n) (x ∷ l) = ap (λ (k : List A). x ∷ k) (take-taken n l)

  pub drop-taken : (n : ℕ) (l : List A) → drop (length (take n l)) l ≡ drop n l
  drop-taken zero l = refl
  drop-taken (suc n) [] = refl
  drop-taken (suc n) (x ∷ l) = drop-taken n l
