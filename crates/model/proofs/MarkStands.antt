-- After a start the mark's position is one at which a screen stands: code may close it. And what the start pushed or made new
-- stays.
use Prim.Native.Nat.{ℕ, zero, suc, pred, ◌≤◌, ◌<◌}
use mathlib.Core.Path.{◌≡◌, refl}
use mathlib.Core.Bool.{Bool, true, false, false≢true}
use mathlib.Core.List.{List, [], ◌∷◌}
use native.Mathlib.Nat.{not-suc-le-zero}
use native.Mathlib.Omega.{arith}
use lib.Dec.{eqb}
use lib.ListN.{length, get_or, set, length-set}
use borrow.Author.Tests.{lt-leb}
use Rattle.model.specs.declared.Change.{Change}
use Rattle.model.specs.declared.Effect.{Effect}
use Rattle.model.specs.declared.Position.{Position}
use Rattle.model.specs.Lists.{is_empty, find, omit, put_second, to_front}
use Rattle.model.specs.Session.{Stack, State, stack, no_stack, on_screens, on_tasks, set_no_history, height, count}
use Rattle.model.specs.Search.{holds}
use Rattle.model.specs.Effects.{move, changed, change_front, put_new, carry_out, without_task, task_left, close}
use Rattle.model.specs.Counts.{created_in, created_by}
use Rattle.model.specs.Marks.{mark_in, mark_after, stands_at}
use Rattle.model.proofs.Logic.{if-elim}
use Rattle.model.proofs.ListLaws.{to_front-length, on_first-length}
use Rattle.model.proofs.Sessions.{with_tasks}
use Rattle.model.proofs.Marks.{close_at, AbleIn, Able}
use Rattle.std.specs.Prelude.{Option, None, Some}

-- a screen stands at the position
abbrev pub Stands : Option Position → State ℕ → Type 0
Stands None s = Unit {0}
Stands (Some p) s = (p.behind < count s) × (p.below < height (get_or s.tasks p.behind no_stack))

-- a screen that stands below another top has company
below_top : (b x : ℕ) (xs : List ℕ) → eqb b x ≡ false → holds b (x ∷ xs) ≡ true → 1 ≤ length xs
unfolding holds
below_top b x [] e h = absurd (false≢true (rw e at h))
below_top b x (y ∷ ys) e h = omega arith

module _ (s : State ℕ) (b r x : ℕ) (xs : List ℕ) (ts : List (Stack ℕ)) where
  abbrev before : State ℕ
  before = with_tasks s (stack r (x ∷ xs) ∷ ts)

  in-front : (o : State ℕ) (c : Change) (same : Bool) → eqb b x ≡ same → AbleIn c b (x ∷ xs)
      → Stands (mark_in c same) (with_tasks o (stack r (changed (eqb b) b c (x ∷ xs)) ∷ ts))
  unfolding changed
  in-front o Change.Keep same e h = (omega arith, omega arith)
  in-front o Change.Renew same e h = tt
  in-front o Change.Clear true e h = rw e (omega arith, omega arith)
  in-front o Change.Clear false e h = tt
  in-front o Change.Lift true e h = rw e (omega arith, omega arith)
  in-front o Change.Lift false e h =
      let n = to_front-length (pred (find (eqb b) (x ∷ xs))) (x ∷ xs) in
      let l = below_top b x xs e h in
      (omega arith, omega (arith, n, l))
  in-front o Change.Push same e h = (omega arith, omega arith)

  behind : (o : State ℕ) (c : Change) (us : List (Stack ℕ)) → 1 ≤ length us
      → Stands (stands_at 1 0) (change_front (changed (eqb b) b c) (with_tasks o (put_second (stack r (x ∷ xs)) us)))
  unfolding change_front
  behind o c [] l = absurd (not-suc-le-zero l)
  behind o c (u ∷ us) l = (omega arith, omega arith)

  pub mark-stands : (d : Effect) (p : ℕ) → Able d p b before → Stands (mark_after d p (eqb b x)) (carry_out (eqb b) b b d p before)
  unfolding carry_out put_new change_front move
  mark-stands Effect.New p h = (omega arith, omega arith)
  mark-stands (Effect.InFront c) p h = in-front s c (eqb b x) refl h
  mark-stands (Effect.MoveAnd c) zero h = in-front (move 0 s) c (eqb b x) refl (h.1 (omega arith))
  mark-stands (Effect.MoveAnd c) (suc zero) h = in-front (move 1 s) c (eqb b x) refl (h.1 (omega arith))
  mark-stands (Effect.MoveAnd c) (suc (suc k)) h =
      rw (lt-leb (suc (suc k)) 1 (omega arith)) (behind (move (suc (suc k)) s) c (to_front k ts) (omega (arith, to_front-length k ts, h.0)))

-- ---- what is pushed or made new stays

omit-most : {A : Type 0} (i : ℕ) (xs : List A) → length xs ≤ suc (length (omit i xs))
omit-most i [] = omega arith
omit-most zero (x ∷ xs) = omega arith
omit-most (suc i) (x ∷ xs) = omega (arith, omit-most i xs)

-- where two tasks stood and a screen closed, one stands
two-left : (k i : ℕ) (s : State ℕ) → 2 ≤ count s → 1 ≤ count (close (suc k) i s)
unfolding close
two-left k i s l =
    if-elim (λ u. 1 ≤ count u) (is_empty (task_left (suc k) i s).screens) (without_task (suc k) (set_no_history 0 s))
    (on_tasks (λ ts. set ts k (task_left (suc k) i s)) (set_no_history 0 s)) (λ e. omega (arith, omit-most k s.tasks))
    (λ e. rw (length-set s.tasks k (task_left (suc k) i s)) (omega arith))

module _ (s : State ℕ) (b r x : ℕ) (xs : List ℕ) (ts : List (Stack ℕ)) where
  created-in-front : (o : State ℕ) (c : Change) (same : Bool) → created_in c ≡ 1
      → 1 ≤ count (close_at (mark_in c same) (with_tasks o (stack r (changed (eqb b) b c (x ∷ xs)) ∷ ts)))
  unfolding changed created_in close
  created-in-front o Change.Keep same e = absurd (omega arith)
  created-in-front o Change.Renew same e = omega arith
  created-in-front o Change.Clear same e = absurd (omega arith)
  created-in-front o Change.Lift same e = absurd (omega arith)
  created-in-front o Change.Push same e = omega arith

  -- a task stands after a start that created a screen, though its caller closed
  pub created-stays : (d : Effect) (p : ℕ) → Able d p b (before s b r x xs ts) → created_by d ≡ 1
      → 1 ≤ count (close_at (mark_after d p (eqb b x)) (carry_out (eqb b) b b d p (before s b r x xs ts)))
  unfolding carry_out put_new change_front move created_by
  created-stays Effect.New p h e = two-left 1 0 _ (omega arith)
  created-stays (Effect.InFront c) p h e = created-in-front s c (eqb b x) e
  created-stays (Effect.MoveAnd c) zero h e = created-in-front (move 0 s) c (eqb b x) e
  created-stays (Effect.MoveAnd c) (suc zero) h e = created-in-front (move 1 s) c (eqb b x) e
  created-stays (Effect.MoveAnd c) (suc (suc k)) h e =
      rw (lt-leb (suc (suc k)) 1 (omega arith))
      (two-left 1 0 _ (rw (on_first-length (on_screens (changed (eqb b) b c)) (put_second (stack r (x ∷ xs)) (to_front k ts))) (two (to_front k ts) (omega (arith, to_front-length k ts, h.0)))))
    where
      two : (us : List (Stack ℕ)) → 1 ≤ length us → 2 ≤ length (put_second (stack r (x ∷ xs)) us)
      two [] l = absurd (not-suc-le-zero l)
      two (u ∷ us) l = omega arith
