-- `calls::launch` meets its contract: its plan keeps the tasks behind the first place, so that the put of it stores the first alone.
use Prim.Native.Nat.{ℕ, zero, suc, ◌<◌}
use mathlib.Core.Path.{◌≡◌, refl, ◌∙◌, ap}
use mathlib.Core.List.{List, [], ◌∷◌}
use native.Mathlib.Omega.{arith}
use lib.ListN.{length, set}
use Rattle.std.specs.Prelude.{Result, Ok, Err}
use Rattle.model.specs.Refusals.{refusal_in, refusal_number, unless}
use Rattle.model.specs.Calls.{launch, edition_named}
use Rattle.session.specs.declared.Session.{Session}
use Rattle.session.specs.declared.Task.{Task}
use Rattle.session.specs.Stored.{task_behind}
use Rattle.session.proofs.Known.{Sized, sized}
use Rattle.effects.specs.Rows.{shifted}
use Rattle.starts.specs.Steps.{or_else}
use Rattle.plans.specs.declared.Plan.{Plan}
use Rattle.plans.specs.Plans.{keeps}
use Rattle.plans.specs.Puts.{put_of}
use Rattle.plans.specs.Shown.{answer_for}
use Rattle.calls.specs.StoredCalls.{reply, call_stored}
use Rattle.calls.specs.CallPlans.{launch_refusal, main_task}
use Rattle.calls.proofs.PlanSettling.{Gives, launch-gives}
use Rattle.calls.proofs.launch.Goals as goal

-- the first task is x, and those behind it stay
first-set : (x : Task) (ts : List Task) → 0 < length ts → set ts 0 x ≡ shifted x 0 ts
first-set x [] h = absurd (omega (arith, h))
first-set x (y ∷ ys) h = refl

-- the plan of a result
plan_or : Plan → Result Plan ℕ → Plan
plan_or q (Ok p) = p
plan_or q (Err n) = q

planned : (k : ℕ) (p q : Plan) → Ok p ≡ unless k q → p ≡ q
unfolding plan_or
planned zero p q e = ap (plan_or q) e
planned (suc k) p q e = ap (plan_or q) e

-- what is stored is what the put of such a plan leaves
stored : (c : Session) (n m e : ℕ) (t : Task) (p : Plan) → length c.tasks ≡ 16 → p ≡ keeps t 0 n m e
    → record { tasks = set c.tasks 0 p.front; n = p.n; main = p.main; edition = p.edition; no_history = p.no_history } ≡ put_of c p
stored c n m e t p h same =
    let first = first-set t c.tasks (omega (arith, h)) in
    rw same (ap (λ (ts : List Task). record { tasks = ts; n = n; main = m; edition = e; no_history = 0 }) first)

pub answer_of-answer-requires : goal.answer_of-answer-requires
answer_of-answer-requires c =
    let a = c.args in
    let g : Gives a.s (Ok c.in-Ok.plan) (call_stored a.table.now a.s (launch a.edition)) = rw (← c.in-Ok.ensures) at
    (launch-gives a.table.now a.s (sized a.s _ c.well_formed.1.0) a.edition (refusal_in a.refused) c.requires) in
    g.can.1

pub returns-in-Ok : goal.returns-in-Ok
returns-in-Ok c =
    let a = c.args in
    let p = c.in-Ok.plan in
    let z : Sized a.s = sized a.s _ c.well_formed.1.0 in
    let g : Gives a.s (Ok p) (call_stored a.table.now a.s (launch a.edition)) = rw (← c.in-Ok.ensures) at
    (launch-gives a.table.now a.s z a.edition (refusal_in a.refused) c.requires) in
    rw c.answer_of-answer.ensures
    (ap (λ (d : Session). reply d (answer_for p (task_behind a.s 1)))
    (stored a.s 1 1 (edition_named a.edition) (main_task a.table.now) p z.tasks
    (planned (or_else (refusal_in a.refused) (launch_refusal a.s.n a.edition)) p (keeps (main_task a.table.now) 0 1 1 (edition_named a.edition)) c.in-Ok.ensures))
    ∙ g.gives)

pub returns-in-Err : goal.returns-in-Err
returns-in-Err c =
    let a = c.args in
    let g : Gives a.s (Err (refusal_number c.in-Err.why)) (call_stored a.table.now a.s (launch a.edition)) = rw (← c.in-Err.ensures) at
    (launch-gives a.table.now a.s (sized a.s _ c.well_formed.1.0) a.edition (refusal_in a.refused) c.requires) in
    rw (c.refused-answer.ensures, c.number.ensures) g.gives
