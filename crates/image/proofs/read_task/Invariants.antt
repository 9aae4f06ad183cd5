-- Invariant: the i lowest screens are stored.
use mathlib.Core.Path.{◌≡◌}
use Rattle.image.proofs.ReadTask.{part_read}
use Rattle.image.proofs.read_task.Given as goal

abbrev pub invariant-loop-i : goal.invariant-loop-i
invariant-loop-i l = l.out ≡ part_read l.body l.at l.height l.i
