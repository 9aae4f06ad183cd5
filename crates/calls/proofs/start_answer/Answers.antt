-- `calls::start_answer` meets its contract: the answer of what is decided.
use mathlib.Core.Path.{sym, ◌∙◌, ap}
use mathlib.Core.Bool.{false}
use Rattle.std.specs.Prelude.{Ok, Err}
use Rattle.model.specs.Refusals.{refusal_in, refusal_number}
use Rattle.starts.proofs.LengthLaws.{sized_by}
use Rattle.model.specs.Calls.{start}
use Rattle.calls.specs.declared.Reply.{Reply}
use Rattle.calls.specs.StoredCalls.{call_stored}
use Rattle.calls.specs.RecordPlans.{plan_in}
use Rattle.checks.proofs.SharedLaws.{shared-ready}
use Rattle.calls.proofs.PlanSettling.{Gives, start-gives}
use Rattle.calls.proofs.start_answer.Goals as goal

pub decide_start-requires : goal.decide_start-requires
decide_start-requires c = λ e. shared-ready c.args.on.now.table.now c.args.on.now.session.now (sym c.args.on.now.says ∙ e)

pub answer_of-requires : goal.answer_of-requires
answer_of-requires c =
    let a = c.args in
    let g : Gives a.on.now.session.now (Ok c.in-Ok.decided.plan) (call_stored a.on.now.table.now a.on.now.session.now (start a.b a.word)) =
    rw (← (ap plan_in c.in-Ok.ensures)) at
    (start-gives a.on.now.table.now a.on.now.session.now (sized_by c.lengths.ensures) a.b a.word false (refusal_in a.on.now.refused) c.args.on.now.says) in
    g.can.1

pub returns-in-Ok : goal.returns-in-Ok
returns-in-Ok c =
    let a = c.args in
    let g : Gives a.on.now.session.now (Ok c.in-Ok.decided.plan) (call_stored a.on.now.table.now a.on.now.session.now (start a.b a.word)) =
    rw (← (ap plan_in c.in-Ok.ensures)) at
    (start-gives a.on.now.table.now a.on.now.session.now (sized_by c.lengths.ensures) a.b a.word false (refusal_in a.on.now.refused) c.args.on.now.says) in
    c.answer_of.ensures ∙ ap (λ (r : Reply). r.answer) g.gives

pub returns-in-Err : goal.returns-in-Err
returns-in-Err c =
    let a = c.args in
    let g : Gives a.on.now.session.now (Err (refusal_number c.in-Err.refusal)) (call_stored a.on.now.table.now a.on.now.session.now (start a.b a.word)) =
    rw (← (ap plan_in c.in-Err.ensures)) at
    (start-gives a.on.now.table.now a.on.now.session.now (sized_by c.lengths.ensures) a.b a.word false (refusal_in a.on.now.refused) c.args.on.now.says) in
    ap (λ (r : Reply). r.answer) (c.refuse.ensures ∙ g.gives)
