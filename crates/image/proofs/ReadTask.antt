-- A task read from a body from its lowest screen up: one screen more on top of those that are stored.
use Prim.Native.Nat.{ℕ, suc, ◌+◌, ◌-◌, ◌≤◌, ◌<◌}
use mathlib.Core.Path.{◌≡◌, sym, ◌∙◌, ap}
use mathlib.Core.List.{List, [], reverse}
use native.Mathlib.Omega.{arith}
use lib.ListN.{length, get_or, set, drop, replicate, length-drop, drop_of_length-le}
use lib.Seq.{drop-cons, get_or-drop, get_or-take, length-take-le}
use Rattle.model.specs.Session.{most_height}
use Rattle.session.specs.declared.Task.{Task}
use Rattle.session.specs.Stored.{hold_task, pad}
use Rattle.session.proofs.TaskLaws.{hold-pushed}
use Rattle.image.specs.Readings.{task_in}

-- the screens xs as they are stored
abbrev row : List ℕ → List ℕ
row xs = pad most_height 0 (reverse xs)

-- the screen behind k others goes on top of the i that are stored
row_next : (xs : List ℕ) (i k : ℕ) → i + suc k ≡ length xs → length xs ≤ most_height → set (row (drop (suc k) xs)) i (get_or xs k 0) ≡ row (drop k xs)
unfolding hold_task
row_next xs i k e low =
    let b = get_or xs k 0 in
    let below = drop (suc k) xs in
    let n : length below ≡ i = omega (arith, length-drop (suc k) xs) in
    ap (λ (j : ℕ). set (row below) j b) (sym n)
    ∙ sym (ap (λ (t : Task). t.screens) (hold-pushed 0 b below (omega arith)))
    ∙ ap row (sym (drop-cons xs k 0 (omega arith)))

-- the i lowest screens of the task of height h at a place, as they are stored
unfoldable pub lowest : List ℕ → ℕ → ℕ → ℕ → List ℕ
lowest body at h i = row (drop (h - i) (task_in body at h).screens)

-- that task with these screens only
abbrev pub part_read : List ℕ → ℕ → ℕ → ℕ → Task
part_read body at h i = record { root = get_or body at 0; height = h; screens = lowest body at h i }

module _ (body : List ℕ) (at h : ℕ) (fits : at + 2 + h ≤ length body) where
  abbrev screens : List ℕ
  screens = (task_in body at h).screens

  task-height : length screens ≡ h
  task-height = length-take-le h (drop (at + 2) body) (omega (arith, length-drop (at + 2) body))

  task-screen : (k : ℕ) → k < h → get_or screens k 0 ≡ get_or body (at + 2 + k) 0
  task-screen k l = get_or-take h (drop (at + 2) body) k 0 l ∙ get_or-drop (at + 2) body k 0

  pub part_none : record { root = get_or body at 0; height = h; screens = replicate most_height 0 } ≡ part_read body at h 0
  unfolding lowest pad
  part_none =
      let l : length screens ≤ h - 0 = omega (arith, task-height) in
      let e : row [] ≡ row (drop (h - 0) screens) = sym (ap row (drop_of_length-le screens l)) in
      λ j. record { root = get_or body at 0; height = h; screens = e j }

  -- the next screen up stands one byte earlier
  lowest-next : (i : ℕ) → i < h → h ≤ most_height → set (lowest body at h i) i (get_or body (at + 1 + h - i) 0) ≡ lowest body at h (i + 1)
  unfolding lowest
  lowest-next i l low =
      let k = h - (i + 1) in
      let down : h - i ≡ suc k = omega arith in
      let place : at + 1 + h - i ≡ at + 2 + k = omega arith in
      rw (down, place, ← (task-screen k (omega arith))) (row_next screens i k (omega (arith, task-height)) (omega (arith, task-height)))

  pub part-next : (t : Task) (i : ℕ) → t ≡ part_read body at h i → i < h → h ≤ most_height
      → record { root = t.root; height = t.height; screens = set t.screens i (get_or body (at + 1 + h - i) 0) } ≡ part_read body at h (i + 1)
  part-next t i e l low = rw (e, lowest-next i l low)

  pub part-all : (t : Task) (i : ℕ) → t ≡ part_read body at h i → i ≡ h → t ≡ hold_task (task_in body at h)
  unfolding lowest hold_task
  part-all t i e k =
      let none : h - i ≡ 0 = omega arith in
      let s : lowest body at h i ≡ row screens = ap (λ (j : ℕ). row (drop j screens)) none in
      e ∙ (λ j. record { root = get_or body at 0; height = sym task-height j; screens = s j })
