-- `calls::start` meets its contract: the plan of what is decided is carried out.
use mathlib.Core.Path.{sym, ◌∙◌}
use Rattle.model.specs.Refusals.{refusal_in}
use Rattle.starts.proofs.LengthLaws.{sized_by}
use Rattle.checks.proofs.SharedLaws.{shared-ready}
use Rattle.calls.proofs.PlanSettling.{start-gives}
use Rattle.calls.proofs.start.Goals as goal

pub decide_start-decided-requires : goal.decide_start-decided-requires
decide_start-decided-requires g c = λ e. shared-ready c.args.on.now.table.now c.args.on.now.session.now (sym c.args.on.now.says ∙ e)

pub reply_of-requires : goal.reply_of-requires
reply_of-requires g c =
    let a = c.args in
    rw (c.plan_of.ensures, c.decide_start-decided.ensures)
    (start-gives a.on.now.table.now a.on.now.session.now (sized_by c.lengths.ensures) a.b a.word a.finishing (refusal_in a.on.now.refused) c.args.on.now.says).can

pub returns : goal.returns
returns g c =
    let a = c.args in
    rw (c.reply_of.ensures, c.plan_of.ensures, c.decide_start-decided.ensures)
    (start-gives a.on.now.table.now a.on.now.session.now (sized_by c.lengths.ensures) a.b a.word a.finishing (refusal_in a.on.now.refused) c.args.on.now.says).gives
