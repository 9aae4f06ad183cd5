-- `calls::back` meets its contract: its plan is carried out.
use Rattle.starts.proofs.LengthLaws.{sized_by}
use Rattle.model.specs.Refusals.{refusal_in}
use Rattle.calls.proofs.PlanSettling.{back-gives, back-plans}
use Rattle.calls.proofs.back.Goals as goal

pub reply_of-requires : goal.reply_of-requires
reply_of-requires c =
    let a = c.args in
    rw c.back_plan.ensures (back-gives a.on.now.table.now a.on.now.session.now (sized_by c.lengths.ensures) (refusal_in a.on.now.refused) c.args.on.now.says).can

pub returns : goal.returns
returns c =
    let a = c.args in
    rw (c.reply_of.ensures, c.back_plan.ensures)
    (back-gives a.on.now.table.now a.on.now.session.now (sized_by c.lengths.ensures) (refusal_in a.on.now.refused) c.args.on.now.says).gives
