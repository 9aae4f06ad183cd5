-- What a plan puts is what the model says: of a marked screen that closes, of a refused call, and of Back.
use Prim.Native.Nat.{ℕ, zero, suc, ◌≤◌, ◌<◌}
use mathlib.Core.Path.{◌≡◌, refl, sym, ◌∙◌, ap}
use mathlib.Core.Bool.{Bool, true, false, false≢true}
use mathlib.Core.List.{List, [], ◌∷◌}
use native.Mathlib.Omega.{arith}
use lib.Dec.{leb}
use lib.ListN.{length, get_or}
use borrow.Author.Tests.{leb-true, leb-false}
use Rattle.model.specs.declared.Position.{Position}
use Rattle.model.specs.Lists.{is_empty}
use Rattle.model.specs.Session.{State, most_tasks}
use Rattle.model.specs.Effects.{task_left, close}
use Rattle.model.specs.Calls.{backed}
use Rattle.model.proofs.Marks.{close_at}
use Rattle.model.proofs.MarkStands.{Stands}
use Rattle.model.proofs.Logic.{if-elim}
use Rattle.session.specs.declared.Session.{Session}
use Rattle.session.specs.declared.Task.{Task}
use Rattle.session.specs.Stored.{view, hold, no_task, storage_blank, Ready, task_behind}
use Rattle.session.proofs.Setters.{with_tasks, with_count, with_main, with_edition, with_no_history}
use Rattle.session.proofs.Known.{Sized}
use Rattle.session.proofs.StoredLaws.{held, stored-height}
use Rattle.effects.specs.Rows.{shifted}
use Rattle.effects.proofs.Fronts.{counted}
use Rattle.closing.proofs.Closable.{Closable}
use Rattle.closing.proofs.Closed.{screen-there, screen-closed, top_closed, back-closable}
use Rattle.plans.specs.declared.Plan.{Plan}
use Rattle.plans.specs.Puts.{Puttable}
use Rattle.plans.specs.Puts.{put_of}
use Rattle.plans.specs.Plans.{still_of, closes, plan_with_closed, plan_with_no_history, Opens}
use Rattle.plans.proofs.Gone.{task-goes}
use Rattle.std.specs.Prelude.{Option, None, Some}
use Rattle.model.specs.Marks.{stands_at}

-- ---- a marked screen

-- it stands in front, or on top of the second task
abbrev near_there : ℕ → ℕ → Type 0
near_there zero i = Unit {0}
near_there (suc j) i = (j ≡ 0) × (i ≡ 0)

abbrev pub NearFront : Option Position → Type 0
NearFront None = Unit {0}
NearFront (Some p) = near_there p.behind p.below

-- its two numbers, by which two positions are told apart
abbrev pub behind_of : Option Position → ℕ
behind_of None = 0
behind_of (Some p) = p.behind

abbrev pub below_of : Option Position → ℕ
below_of None = 0
below_of (Some p) = p.below

-- two sessions without their No-History marks
unmarked : {c d : Session} → c ≡ d → with_no_history c 0 ≡ with_no_history d 0
unmarked e = ap (λ (c : Session). with_no_history c 0) e

module _ (c : Session) (t : Task) (k n m v : ℕ) where
  -- the session before it closes
  abbrev pub put_in : Session
  put_in = with_edition (with_main (with_count (with_tasks c (shifted t k c.tasks)) n) m) v

  module _ (z : Sized put_in) (blank : storage_blank put_in ≡ true) where
    plan-closes-there : (j i : ℕ) → NearFront (stands_at j i) → Stands (stands_at j i) (view put_in)
        → (one one' : Bool) → leb t.height 1 ≡ one
        → ((j' i' : ℕ) → stands_at j i ≡ stands_at (suc j') i' → leb (task_behind put_in 1).height 1 ≡ one')
        → put_of c (closes (stands_at j i) one one' t k n m v) ≡ with_no_history (hold (close_at (stands_at j i) (view put_in))) 0
    plan-closes-there zero i near there true one' e f =
        unmarked (task-goes put_in z 0 i (record { blank = blank; there = there }) (leb-true _ _ e))
    plan-closes-there zero i near there false one' e f =
        let more = leb-false t.height 1 e in
        unmarked (screen-closed put_in z 0 i (record { blank = blank; there = there }) (λ q. omega arith) refl)
    plan-closes-there (suc zero) i near there one true e f =
        unmarked (task-goes put_in z 1 i (record { blank = blank; there = there }) (leb-true _ _ (f 0 i refl)))
    plan-closes-there (suc zero) zero near there one false e f =
        unmarked (sym (top_closed put_in z 1 (record { blank = blank; there = there }) (leb-false (task_behind put_in 1).height 1 (f 0 0 refl))))
    plan-closes-there (suc zero) (suc i) near there one false e f = absurd (omega (arith, near.1))
    plan-closes-there (suc (suc j)) i near there one one' e f = absurd (omega (arith, near.0))

    pub plan-closes : (mark : Option Position) → NearFront mark → Stands mark (view put_in)
        → (one one' : Bool) → leb t.height 1 ≡ one
        → ((j i : ℕ) → mark ≡ stands_at (suc j) i → leb (task_behind put_in 1).height 1 ≡ one')
        → put_of c (closes mark one one' t k n m v) ≡ with_no_history (hold (close_at mark (view put_in))) 0
    plan-closes None near there one one' e f = unmarked (sym (held put_in z blank))
    plan-closes (Some p) near there one one' e f = plan-closes-there p.behind p.below near there one one' e f

    -- and it can be put
    plan-puttable-there : k < most_tasks → (j i : ℕ) → NearFront (stands_at j i) → Stands (stands_at j i) (view put_in) → (one one' : Bool)
        → ((j' i' : ℕ) → stands_at j i ≡ stands_at (suc j') i' → leb (task_behind put_in 1).height 1 ≡ one')
        → Puttable c (closes (stands_at j i) one one' t k n m v)
    plan-puttable-there l zero i near there true one' f = record { few = l; second = λ e. absurd (false≢true e) }
    plan-puttable-there l zero i near there false one' f = record { few = l; second = λ e. absurd (false≢true e) }
    plan-puttable-there l (suc j) i near there one true f = record { few = l; second = λ e. absurd (false≢true e) }
    plan-puttable-there l (suc j) i near there one false f =
        let more = leb-false (task_behind put_in 1).height 1 (f j i refl) in
        let stand : 1 < n = omega (arith, near.0, there.0, counted put_in z blank) in
        record { few = l; second = λ e. (omega arith, stored-height put_in z blank 1 stand) }

    pub plan-puttable : k < most_tasks → (mark : Option Position) → NearFront mark → Stands mark (view put_in) → (one one' : Bool)
        → ((j i : ℕ) → mark ≡ stands_at (suc j) i → leb (task_behind put_in 1).height 1 ≡ one') → Puttable c (closes mark one one' t k n m v)
    plan-puttable l None near there one one' f = record { few = l; second = λ e. absurd (false≢true e) }
    plan-puttable l (Some p) near there one one' f = plan-puttable-there l p.behind p.below near there one one' f

-- however many screens close, and whichever mark it leaves
pub closed-puttable : (c : Session) (x : ℕ) {p : Plan} → Puttable c p → Puttable c (plan_with_closed x p)
closed-puttable c x h = record { few = h.few; second = h.second }

pub marked-puttable : (c : Session) (h : ℕ) {p : Plan} → Puttable c p → Puttable c (plan_with_no_history h p)
marked-puttable c h q = record { few = q.few; second = q.second }

-- ---- a refused call

same_row : (ts : List Task) → 1 ≤ length ts → shifted (get_or ts 0 no_task) 0 ts ≡ ts
same_row [] l = absurd (omega arith)
same_row (t ∷ ts) l = refl

module _ (s : Session) (z : Sized s) where
  filled : 1 ≤ length s.tasks
  filled = let l = z.tasks in omega arith

  -- the front task is put where it stood
  pub put_same : put_in s (task_behind s 0) 0 s.n s.main s.edition ≡ s
  put_same = ap (with_tasks s) (same_row s.tasks filled)

  pub still-put : put_of s (still_of s) ≡ s
  still-put = put_same

pub still-puttable : (s : Session) → Puttable s (still_of s)
still-puttable s = record { few = omega arith; second = λ e. absurd (false≢true e) }

-- ---- Back: the marked screen is the top one of the front task

-- a screen that closes leaves no No-History mark
closed_none : (s : State ℕ) → (close 1 0 s).no_history ≡ 0
unfolding close
closed_none s = if-elim (λ (u : State ℕ). u.no_history ≡ 0) (is_empty (task_left 1 0 s).screens) _ _ (λ e. refl) (λ e. refl)

none-held : (s : State ℕ) → with_no_history (hold (close 1 0 s)) 0 ≡ hold (close 1 0 s)
unfolding hold
none-held s = ap (with_no_history (hold (close 1 0 s))) (sym (closed_none s))

abbrev pub back_mark : Option Position
back_mark = stands_at 0 0

module _ (tb : List ℕ) (s : Session) (z : Sized s) (h : Ready tb s) (some : 1 ≤ s.n) (one' : Bool) where
  abbrev front : Task
  front = task_behind s 0

  abbrev pub back_plan : Plan
  back_plan = closes back_mark (leb front.height 1) one' front 0 s.n s.main s.edition

  there : Closable s 0 0
  there = back-closable tb s z h some

  not_behind : (j i : ℕ) → back_mark ≡ stands_at (suc j) i → ⊥
  not_behind j i e = let q : 0 ≡ suc j = ap behind_of e in omega arith

  same : put_in s front 0 s.n s.main s.edition ≡ s
  same = put_same s z

  pub back-put : put_of s back_plan ≡ hold (backed (view s))
  unfolding backed
  back-put =
      plan-closes s front 0 s.n s.main s.edition (rw same z) (rw same there.blank) back_mark tt (rw same there.there)
      (leb front.height 1) one' refl (λ j i e. absurd (not_behind j i e))
      ∙ ap (λ (c : Session). with_no_history (hold (close_at back_mark (view c))) 0) same ∙ none-held (view s)

  pub back-puttable : Puttable s back_plan
  back-puttable =
      plan-puttable s front 0 s.n s.main s.edition (rw same z) (rw same there.blank) (omega arith) back_mark tt (rw same there.there)
      (leb front.height 1) one' (λ j i e. absurd (not_behind j i e))

  pub back-opens : Opens back_mark front
  back-opens i e = let q : 0 ≡ i = ap below_of e in rw (← q) (screen-there s z 0 0 there)
