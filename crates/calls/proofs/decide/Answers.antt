-- `calls::decide` meets its contract: a start decides by a rule, and any other record is the plan of the call that it asks for.
use mathlib.Core.Path.{sym, ◌∙◌}
use Rattle.checks.proofs.SharedLaws.{shared-ready}
use Rattle.calls.proofs.decide.Goals as goal

pub decide_start-requires : goal.decide_start-requires
decide_start-requires c = λ e. shared-ready c.args.on.now.table.now c.args.on.now.session.now (sym c.args.on.now.says ∙ e)
