-- `calls::launch_plan` meets its contract: refused, or a new task of the main screen.
use mathlib.Core.Path.{sym, ◌∙◌, ap}
use Rattle.model.specs.Refusals.{refusal_in}
use Rattle.checks.proofs.SharedLaws.{shared-ready}
use Rattle.calls.proofs.launch_plan.Goals as goal

pub of-requires : goal.of-requires
of-requires c =
    let o = c.args.on.now in (shared-ready o.table.now o.session.now (sym o.says ∙ ap refusal_in c.in_ok-on.was)).good
