-- A row into whose front one comes, or of which one is gone, as the library copies it; and a padded row so is the padded row with
-- the change.
use Prim.Native.Nat.{ℕ, suc, ◌+◌, ◌-◌, ◌<◌}
use mathlib.Core.Path.{◌≡◌, sym, ◌∙◌, ap, ap₂}
use mathlib.Core.List.{List, ◌∷◌, ◌++◌}
use native.Mathlib.Omega.{arith}
use native.Mathlib.Numerals.{add-one}
use lib.ListN.{length, set, drop, replicate}
use lib.Seq.{drop-drop, paste}
use Rattle.session.specs.Stored.{pad}
use Rattle.session.proofs.Padding.{take-pad, drop-pad}
use Rattle.session.proofs.TaskLaws.{lift-copied}
use Rattle.effects.specs.Rows.{shifted, closed_up}

module _ {A : Type 0} where
  -- ---- one comes in front

  pub pad-shifted : (n : ℕ) (z x : A) (k : ℕ) (xs : List A) → length xs ≡ k → k < n → pad n z (x ∷ xs) ≡ shifted x k (pad n z xs)
  unfolding pad
  pad-shifted n z x k xs e h =
      let m : n - k ≡ suc (n - suc k) = omega arith in
      let f : drop (suc k) (pad n z xs) ≡ replicate (n - suc k) z =
      ap (λ (j : ℕ). drop j (pad n z xs)) (sym (add-one k)) ∙ sym (drop-drop 1 k (pad n z xs))
      ∙ ap (drop 1) (drop-pad n z k xs e ∙ ap (λ (j : ℕ). replicate j z) m) in
      ap (λ (j : ℕ). x ∷ xs ++ replicate (n - suc j) z) e
      ∙ ap₂ (λ (ys zs : List A). x ∷ ys ++ zs) (sym (take-pad n z k xs e)) (sym f)

  -- ---- one is gone, and those behind it come nearer

  -- when j of those behind it have come
  abbrev pub closing_up : ℕ → ℕ → List A → List A
  closing_up m j xs = paste xs m (drop (suc m) xs) j

  -- as the library copies them
  pub copied-nearer : (m k i j : ℕ) (xs : List A) → i ≡ suc m → j ≡ i + k → paste xs m (drop i xs) (j - i) ≡ closing_up m k xs
  copied-nearer m k i j xs e f = let n : j - i ≡ k = omega arith in ap₂ (λ (i n : ℕ). paste xs m (drop i xs) n) e n

  pub close-end : (m k : ℕ) (x : A) (xs : List A) → m + k < length xs → set (closing_up m k xs) (m + k) x ≡ closed_up m k x xs
  close-end m k x xs h = lift-copied xs m k x (omega arith)
