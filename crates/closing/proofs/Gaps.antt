-- One gone from a padded row, as a loop leaves it, and so of a stored task's screens.
use Prim.Native.Nat.{ℕ, suc, ◌+◌, ◌-◌, ◌≤◌, ◌<◌}
use mathlib.Core.Path.{◌≡◌, sym, ◌∙◌, ap, ap₂}
use mathlib.Core.Bool.{true}
use mathlib.Core.List.{List, ◌++◌, reverse, reverse-append}
use native.Mathlib.Omega.{arith}
use lib.ListN.{length, take, drop, replicate, length-drop, length-reverse}
use lib.Seq.{take_at, take-append-le, drop-append-le}
use Rattle.model.specs.Lists.{omit}
use Rattle.model.specs.Session.{stack, most_height}
use Rattle.model.proofs.ListLaws.{omit-length, omit-split}
use Rattle.session.specs.declared.Task.{Task}
use Rattle.session.specs.Stored.{view_task, hold_task, pad, blank_above}
use Rattle.session.proofs.Known.{Screens32}
use Rattle.session.proofs.Padding.{drop-pad}
use Rattle.session.proofs.StoredLaws.{hold-view_task}
use Rattle.session.proofs.TaskLaws.{reverse-drop, reverse-take}
use Rattle.effects.specs.Rows.{closed_up}
use Rattle.effects.proofs.Changes.{blank-low, blank-height}

module _ {A : Type 0} where
  pub pad-closed : (n : ℕ) (z : A) (m k : ℕ) (xs : List A) → m + suc k ≡ length xs → length xs ≤ n
      → pad n z (omit m xs) ≡ closed_up m k z (pad n z xs)
  unfolding pad
  pad-closed n z m k xs e h =
      let zs = replicate (n - length xs) z in
      let g : n - length (omit m xs) ≡ suc (n - (m + suc k)) = omega (arith, omit-length m xs (omega arith)) in
      let t : take k (drop (suc m) (xs ++ zs)) ≡ drop (suc m) xs =
      rw (drop-append-le (suc m) xs zs (omega arith)) (take_at (drop (suc m) xs) zs k (omega (arith, length-drop (suc m) xs))) in
      ap₂ (λ (ys : List A) (j : ℕ). ys ++ replicate j z) (omit-split m xs) g
      ∙ sym (rw (t, take-append-le m xs zs (omega arith), drop-pad n z (m + suc k) xs (sym e)))

  reverse-omit : (m k : ℕ) (xs : List A) → m + suc k ≡ length xs → reverse (omit k xs) ≡ omit m (reverse xs)
  reverse-omit m k xs e =
      ap reverse (omit-split k xs) ∙ reverse-append (take k xs) (drop (suc k) xs)
      ∙ ap₂ ◌++◌ (reverse-drop m (suc k) xs e) (reverse-take (suc m) k xs (omega arith))
      ∙ sym (omit-split m (reverse xs))

-- ---- a screen gone from a task

hold-short : (r m k : ℕ) (xs : List ℕ) → m + suc k ≡ length xs → length xs ≤ most_height
    → hold_task (stack r (omit k xs)) ≡ record { root = r; height = length xs - 1; screens = closed_up m k 0 (hold_task (stack r xs)).screens }
unfolding hold_task
hold-short r m k xs e h =
    let n : length (omit k xs) ≡ length xs - 1 = omega (arith, omit-length k xs (omega arith)) in
    let s : pad most_height 0 (reverse (omit k xs)) ≡ closed_up m k 0 (pad most_height 0 (reverse xs)) =
    ap (pad most_height 0) (reverse-omit m k xs e)
    ∙ pad-closed most_height 0 m k (reverse xs) (omega (arith, length-reverse xs)) (omega (arith, length-reverse xs)) in
    λ i. record { root = r; height = n i; screens = s i }

pub screen-gone : (t : Task) → Screens32 t → blank_above t ≡ true → (k : ℕ) → k < t.height
    → hold_task (stack t.root (omit k (view_task t).screens))
    ≡ record { root = t.root; height = t.height - 1; screens = closed_up (t.height - 1 - k) k 0 t.screens }
unfolding view_task
screen-gone t l e k h =
    let n = blank-height t l e in
    let low = blank-low t e in
    let m = t.height - 1 - k in
    hold-short t.root m k (view_task t).screens (omega arith) (omega arith)
    ∙ ap₂ (λ (j : ℕ) (u : Task). record { root = t.root; height = j - 1; screens = closed_up m k 0 u.screens }) n (hold-view_task t l e)
