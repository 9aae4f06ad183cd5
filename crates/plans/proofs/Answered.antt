-- The answer that is made from a plan is a look at what the plan puts, with the screens that close.
use Prim.Native.Nat.{ℕ, zero, suc, ◌≤◌}
use mathlib.Core.Path.{◌≡◌, refl, sym, ◌∙◌, ap}
use mathlib.Core.Bool.{Bool, true, false}
use mathlib.Core.List.{List, [], ◌∷◌, ◌++◌}
use native.Mathlib.Omega.{arith}
use lib.Dec.{ltb}
use lib.ListN.{length, get_or}
use Rattle.model.specs.Lists.{omit}
use Rattle.model.specs.Session.{most_tasks}
use Rattle.model.specs.Answers.{look_at, with_closed}
use Rattle.session.specs.declared.Session.{Session}
use Rattle.session.specs.declared.Task.{Task}
use Rattle.session.specs.Stored.{view, no_task, blank_task, task_behind}
use Rattle.session.proofs.Known.{Sized}
use Rattle.answer.specs.Seen.{Seen, answer_of}
use Rattle.answer.proofs.LookLaws.{look-fronted}
use Rattle.effects.specs.Rows.{shifted}
use Rattle.plans.specs.declared.Plan.{Plan}
use Rattle.plans.specs.Puts.{popped_if, gone_if, row_of}
use Rattle.plans.specs.Puts.{put_of}
use Rattle.plans.specs.Shown.{shown_by, answer_for, Showable}

-- where the front task goes, no other went back before it, and none pops: then the one behind it is shown
abbrev pub Uncovers : Plan → Type 0
Uncovers p = p.gone ≡ 0 → (p.shift ≡ 0) × (p.pops ≡ false)

-- ---- the first task of the row that is put

popped-first : (b : Bool) (t : Task) (ts : List Task) → get_or (popped_if b (t ∷ ts)) 0 no_task ≡ t
popped-first true t [] = refl
popped-first true t (u ∷ ts) = refl
popped-first false t ts = refl

-- a task behind the first goes, or none
behind-first : (b : Bool) (g : ℕ) (ts : List Task) → 1 ≤ length ts → get_or (gone_if b (suc g) ts) 0 no_task ≡ get_or ts 0 no_task
behind-first b g [] l = absurd (omega arith)
behind-first true g (t ∷ ts) l = refl
behind-first false g (t ∷ ts) l = refl

-- the first goes
second-first : (t : Task) (ts : List Task) → 2 ≤ length ts → get_or (omit 0 (shifted t 0 ts) ++ blank_task ∷ []) 0 no_task ≡ get_or ts 1 no_task
second-first t [] l = absurd (omega arith)
second-first t (u ∷ []) l = absurd (omega arith)
second-first t (u ∷ v ∷ ts) l = refl

popped-some : (b : Bool) (t : Task) (ts : List Task) → 1 ≤ length (popped_if b (t ∷ ts))
popped-some true t [] = omega arith
popped-some true t (u ∷ ts) = omega arith
popped-some false t ts = omega arith

module _ (p : Plan) (ts : List Task) (l : 2 ≤ length ts) (u : Uncovers p) where
  row_first : get_or (row_of p ts) 0 no_task ≡ shown_by p.gone p.front (get_or ts 1 no_task)
  row_first = go p.gone refl
    where
      go : (g : ℕ) → p.gone ≡ g
          → get_or (gone_if (ltb g most_tasks) g (popped_if p.pops (shifted p.front p.shift ts))) 0 no_task
          ≡ shown_by g p.front (get_or ts 1 no_task)
      go zero e = rw ((u e).0, (u e).1) (second-first p.front ts l)
      go (suc g) e =
          behind-first (ltb (suc g) most_tasks) g _ (popped-some p.pops p.front _)
          ∙ popped-first p.pops p.front _

-- ---- the answer

module _ (s : Session) (z : Sized s) (p : Plan) (u : Uncovers p)
    (sizes : Sized (put_of s p)) (seen : Seen (put_of s p)) where
  shown : get_or (row_of p s.tasks) 0 no_task ≡ shown_by p.gone p.front (task_behind s 1)
  shown = row_first p s.tasks (let l = z.tasks in omega arith) u

  pub showable : Showable p (task_behind s 1)
  showable some = rw (← shown) (seen.filled some, seen.low some)

  pub answers-look : answer_for p (task_behind s 1) ≡ with_closed p.closed (look_at (view (put_of s p)))
  answers-look =
      rw (← shown)
      (closed-by (row_of p s.tasks) p.n p.main p.closed p.edition p.no_history ∙ ap (with_closed p.closed) (sym (look-fronted (put_of s p) sizes seen)))
    where
      closed-by : (ts : List Task) (n m x e h : ℕ)
          → answer_of (get_or ts 0 no_task) n m x e h ≡ with_closed x (answer_of (get_or ts 0 no_task) n m 0 e h)
      closed-by ts zero m x e h = refl
      closed-by ts (suc n) m x e h = refl
