-- What `plans::put_row` leaves of the row of tasks: a part of the row copied one place further, or one place nearer.
use Prim.Native.Nat.{ℕ, suc, ◌+◌, ◌-◌, ◌<◌}
use mathlib.Core.Path.{◌≡◌, ◌∙◌, ap}
use mathlib.Core.List.{List, [], ◌∷◌, ◌++◌}
use native.Mathlib.Omega.{arith}
use lib.ListN.{length, get_or, set, take, drop}
use Rattle.std.specs.List.{copy_within}
use Rattle.std.proofs.lemmas.List.{set_at, length-take, length-drop, length-append}
use Rattle.std.proofs.Math.Seq.{drop-cons}
use Rattle.model.specs.Lists.{omit}
use Rattle.effects.specs.Rows.{shifted}
use Rattle.plans.proofs.Rows.{closed_all}

module _ {A : Type 0} where
  -- the first k go one place further, and x comes first
  pub copied-shifts : (x : A) (k : ℕ) (xs : List A) → k < length xs → set (copy_within xs 0 k 1) 0 x ≡ shifted x k xs
  copied-shifts x k [] h = absurd (omega (arith, h))
  copied-shifts x k (y ∷ ys) h =
      let e : k - 0 ≡ k = omega arith in
      let f : 1 + k ≡ suc k = omega arith in
      rw (e, f)

  -- those behind the one that goes come one place nearer, and x stands in the last place
  pub copied-goes : (x : A) (m n : ℕ) (xs : List A) → m < n → length xs ≡ n
      → set (copy_within xs (m + 1) n m) (n - 1) x ≡ omit m xs ++ x ∷ []
  copied-goes x m n xs h e =
      let k = n - (m + 1) in
      let s : m + 1 ≡ suc m = omega arith in
      let a : length (take m xs ++ take k (drop (suc m) xs)) ≡ n - 1 =
      omega (arith, length-append (take m xs) (take k (drop (suc m) xs)), length-take m xs, length-take k (drop (suc m) xs), length-drop (suc m) xs) in
      ap (λ (i : ℕ). set (take m xs ++ take k (drop i xs) ++ drop (m + k) xs) (n - 1) x) s
      ∙ ap (λ (zs : List A). set (take m xs ++ take k (drop (suc m) xs) ++ zs) (n - 1) x) (drop-cons xs (m + k) x (omega arith))
      ∙ set_at (take m xs ++ take k (drop (suc m) xs)) (get_or xs (m + k) x) (drop (suc (m + k)) xs) x (n - 1) a
      ∙ ap (λ (i : ℕ). (take m xs ++ take k (drop (suc m) xs)) ++ x ∷ drop i xs) (f k)
      ∙ closed_all m k x xs (omega arith)
    where
      f : (k : ℕ) → suc (m + k) ≡ m + suc k
      f k = omega arith
