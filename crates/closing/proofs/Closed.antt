-- Closing a screen of a stored session, by the height of its task; and that Back finds a screen.
use Prim.Native.Nat.{ℕ, suc, ◌≤◌, ◌<◌}
use mathlib.Core.Path.{◌≡◌, refl, sym, ◌∙◌, ap, ap₂}
use mathlib.Core.Bool.{true, false}
use mathlib.Core.List.{List, [], ◌∷◌}
use native.Mathlib.Omega.{arith}
use lib.ListN.{length, get_or, set}
use Rattle.model.specs.Lists.{is_empty, omit}
use Rattle.model.specs.Session.{Stack, stack, no_stack, on_screens, set_no_history, height, count, most_height}
use Rattle.model.specs.Effects.{without_task, task_left, close}
use Rattle.model.proofs.Logic.{All-at}
use Rattle.model.proofs.ListLaws.{omit-length}
use Rattle.model.proofs.Sound.{TaskSound}
use Rattle.model.proofs.Close.{close-emptied, close-kept}
use Rattle.session.specs.declared.Session.{Session}
use Rattle.session.specs.declared.Task.{Task}
use Rattle.session.specs.Stored.{view, view_task, hold, hold_task, no_task, popped, blank_above, storage_blank, Ready}
use Rattle.session.proofs.Setters.{with_tasks, with_no_history}
use Rattle.session.proofs.Known.{Sized}
use Rattle.session.proofs.StoredLaws.{held, hold-view_task, view-at, blank-few, sized-at, sound-blank, sound-view}
use Rattle.session.proofs.SessionLaws.{hold-set}
use Rattle.session.proofs.TaskLaws.{hold-popped}
use Rattle.effects.proofs.Changes.{blank-low, blank-height}
use Rattle.effects.proofs.Fronts.{counted, stored-blank}
use Rattle.closing.proofs.Closable.{Closable}

-- ---- closing a screen, also for a caller that closes in place

empty-is : {A : Type 0} (xs : List A) → length xs ≡ 0 → is_empty xs ≡ true
empty-is [] e = refl
empty-is (x ∷ xs) e = absurd (omega arith)

filled_is : {A : Type 0} (xs : List A) → (length xs ≡ 0 → ⊥) → is_empty xs ≡ false
filled_is [] n = absurd (n refl)
filled_is (x ∷ xs) n = refl

module _ (s : Session) (z : Sized s) (k i : ℕ) (c : Closable s k i) where
  abbrev t : Task
  t = get_or s.tasks k no_task

  inside : k < s.n
  inside = let n = counted s z c.blank in omega (arith, c.there.0)

  abbrev xs : List ℕ
  xs = (get_or (view s).tasks k no_stack).screens

  tall : length xs ≡ t.height
  tall =
      let few = blank-few s c.blank in
      let h = inside in
      ap height (view-at s k h) ∙ blank-height t (sized-at s z k (omega arith)) (stored-blank s z c.blank k h)

  closed-last : t.height ≡ 1 → hold (close (suc k) i (view s)) ≡ hold (without_task (suc k) (set_no_history 0 (view s)))
  closed-last one =
      let h = tall in
      ap hold (close-emptied (suc k) i (view s) (empty-is (omit i xs) (omega (arith, omit-length i xs c.there.1))))

  closed-kept : (t.height ≡ 1 → ⊥)
      → hold (close (suc k) i (view s)) ≡ with_no_history (with_tasks s (set s.tasks k (hold_task (stack t.root (omit i (view_task t).screens))))) 0
  unfolding view_task hold
  closed-kept more =
      let h = tall in
      ap hold (close-kept (suc k) i (view s) (filled_is (omit i xs) (λ q. more (omega (arith, omit-length i xs c.there.1)))))
      ∙ ap (λ (o : Session). with_no_history o 0) (hold-set (view s) k (task_left (suc k) i (view s)) c.there.0
      ∙ ap₂ (λ (o : Session) (u : Stack ℕ). with_tasks o (set o.tasks k (hold_task (on_screens (omit i) u)))) (held s z c.blank) (view-at s k inside))

  -- where the task has one screen
  pub task-there : (storage_blank s ≡ true) × (k < s.n)
  task-there = (c.blank, inside)

  pub task-closed : t.height ≡ 1 → {r : Session} → r ≡ hold (without_task (suc k) (set_no_history 0 (view s)))
      → r ≡ hold (close (suc k) i (view s))
  task-closed one e = e ∙ sym (closed-last one)

  -- where it has more: what `without_screen` requires, and what is left when its task is put in place
  pub screen-there : (blank_above t ≡ true) × (i < t.height)
  screen-there = let h = tall in (stored-blank s z c.blank k inside, omega (arith, c.there.1))

  pub screen-closed : (t.height ≡ 1 → ⊥) → {r : Task} → r ≡ hold_task (stack t.root (omit i (view_task t).screens))
      → with_no_history (with_tasks s (set s.tasks k r)) 0 ≡ hold (close (suc k) i (view s))
  screen-closed more e = ap (λ (u : Task). with_no_history (with_tasks s (set s.tasks k u)) 0) e ∙ sym (closed-kept more)

-- ---- the top screen of a task that keeps others

hold-first-gone : (r : ℕ) (xs : List ℕ) → 0 < length xs → length xs ≤ most_height → hold_task (stack r (omit 0 xs)) ≡ popped (hold_task (stack r xs))
hold-first-gone r [] h l = absurd (omega arith)
hold-first-gone r (x ∷ xs) h l = hold-popped r x xs (omega arith)

pub top_closed : (s : Session) → Sized s → (k : ℕ) → Closable s k 0 → 1 < (get_or s.tasks k no_task).height
    → hold (close (suc k) 0 (view s)) ≡ with_no_history (with_tasks s (set s.tasks k (popped (get_or s.tasks k no_task)))) 0
unfolding view_task
top_closed s z k c more =
    let t = get_or s.tasks k no_task in
    let few = blank-few s c.blank in
    let h = inside s z k 0 c in
    let l = sized-at s z k (omega arith) in
    let e = stored-blank s z c.blank k h in
    let n = blank-height t l e in
    let low = blank-low t e in
    closed-kept s z k 0 c (λ q. omega arith)
    ∙ ap (λ (u : Task). with_no_history (with_tasks s (set s.tasks k u)) 0)
    (hold-first-gone t.root (view_task t).screens (omega arith) (omega arith) ∙ ap popped (hold-view_task t l e))

-- ---- Back

-- it finds a screen to close
pub back-closable : (tb : List ℕ) (c : Session) → Sized c → Ready tb c → 1 ≤ c.n → Closable c 0 0
back-closable tb c z h some =
    let blank = sound-blank tb c h.sound in
    let n = counted c z blank in
    let l : 0 < count (view c) = omega arith in
    record { blank = blank; there = (l, (All-at (TaskSound tb) (view c).tasks 0 no_stack l (sound-view tb c h.sound).each).filled) }
