-- `calls::back_plan` meets its contract: refused, or the plan that closes the top screen of the front task.
use mathlib.Core.Path.{sym, ◌∙◌, ap}
use mathlib.Core.Bool.{false}
use native.Mathlib.Omega.{arith}
use Rattle.model.specs.Refusals.{refusal_in}
use Rattle.plans.proofs.Closes.{back-opens}
use Rattle.checks.proofs.SharedLaws.{shared-ready}
use Rattle.starts.proofs.LengthLaws.{sized_by}
use Rattle.calls.proofs.back_plan.Goals as goal

pub closing_plan-requires : goal.closing_plan-requires
closing_plan-requires c =
    let o = c.args.on.now in
    let ready = shared-ready o.table.now o.session.now (sym o.says ∙ ap refusal_in c.in_ok-on.was) in
    (back-opens o.table.now o.session.now (sized_by c.lengths.ensures) ready (omega arith) false, omega arith, omega arith)
