-- Invariant: i tasks were read from the first `at` bytes, and are stored.
use Prim.Native.Nat.{◌≤◌}
use lib.ListN.{length}
use Rattle.image.proofs.ReadTasks.{Begun}
use Rattle.image.proofs.read_tasks.Given as goal

abbrev pub invariant-loop-i : goal.invariant-loop-i
invariant-loop-i l = (l.at ≤ length l.body) × Begun l.body l.n l.i l.at l.s.tasks
