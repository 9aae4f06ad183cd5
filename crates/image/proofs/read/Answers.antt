-- n is read first, and then the tasks in front of the trailer.
use mathlib.Core.Path.{◌∙◌}
use native.Mathlib.Omega.{arith}
use Rattle.image.proofs.ReadTrailer.{shaped-six, read-many, read-few}
use Rattle.image.proofs.read.Goals as goal

pub overflow_sub-end : goal.overflow_sub-end
overflow_sub-end c = shaped-six c.args.image.now c.requires

pub bounds-image-end : goal.bounds-image-end
bounds-image-end c = omega (arith, shaped-six c.args.image.now c.requires)

pub bounds-image-end-2 : goal.bounds-image-end-2
bounds-image-end-2 c = omega (arith, shaped-six c.args.image.now c.requires)

pub bounds-image-end-3 : goal.bounds-image-end-3
bounds-image-end-3 c = omega (arith, shaped-six c.args.image.now c.requires)

pub bounds-image-end-4 : goal.bounds-image-end-4
bounds-image-end-4 c = omega (arith, shaped-six c.args.image.now c.requires)

pub returns-then-few : goal.returns-then-few
returns-then-few c = c.read_tasks.ensures ∙ read-few c.args.image.now (omega arith)

pub returns-else-few : goal.returns-else-few
returns-else-few c = read-many c.args.image.now (omega arith)
