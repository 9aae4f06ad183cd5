-- `calls::make` meets its contract: what is decided of the record, and its plan is carried out.
use mathlib.Core.Path.{sym, ◌∙◌}
use Rattle.model.specs.Refusals.{refusal_in}
use Rattle.starts.proofs.LengthLaws.{sized_by}
use Rattle.checks.proofs.SharedLaws.{shared-ready}
use Rattle.calls.proofs.RecordSettling.{record-gives, record-creates}
use Rattle.calls.proofs.make.Goals as goal

pub reply_of-requires : goal.reply_of-requires
reply_of-requires c =
    let a = c.args in
    rw (c.plan_of.ensures, c.decide-decided.ensures)
    (record-gives a.on.now.table.now a.on.now.session.now (sized_by c.lengths.ensures) (refusal_in a.on.now.refused) c.args.on.now.says a.r.screen a.r.word a.r.asked).can

pub returns-clause-reply : goal.returns-clause-reply
returns-clause-reply c =
    let a = c.args in
    rw (c.reply_of.ensures, c.plan_of.ensures, c.decide-decided.ensures)
    (record-gives a.on.now.table.now a.on.now.session.now (sized_by c.lengths.ensures) (refusal_in a.on.now.refused) c.args.on.now.says a.r.screen a.r.word a.r.asked).gives

pub returns-clause-created : goal.returns-clause-created
returns-clause-created c =
    let a = c.args in
    rw (c.created_by.ensures, c.decide-decided.ensures)
    (record-creates a.on.now.table.now a.on.now.session.now (sized_by c.lengths.ensures) (refusal_in a.on.now.refused) c.args.on.now.says a.r.screen a.r.word a.r.asked)
