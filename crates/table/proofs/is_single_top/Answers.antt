-- The test of the mode is that of the byte.
use mathlib.Core.Path.{◌∙◌}
use Rattle.model.specs.Table.{mode_of, is_single_top}
use Rattle.table.proofs.ModeLaws.{top_named}
use Rattle.table.proofs.is_single_top.Goals as goal

pub returns : goal.returns
unfolding is_single_top
returns c = (rw c.launch_mode.ensures at c.eq.ensures) ∙ top_named (mode_of c.args.table.now c.args.x)
