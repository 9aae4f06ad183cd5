-- The test of the mode is that of the byte.
use mathlib.Core.Path.{◌∙◌}
use Rattle.model.specs.Table.{mode_of, is_single_task}
use Rattle.table.proofs.ModeLaws.{task_named}
use Rattle.table.proofs.is_single_task.Goals as goal

pub returns : goal.returns
unfolding is_single_task
returns c = (rw c.launch_mode.ensures at c.eq.ensures) ∙ task_named (mode_of c.args.table.now c.args.x)
