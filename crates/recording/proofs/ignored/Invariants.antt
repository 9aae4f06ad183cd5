-- The loop's invariant: the place that is reached, and the notes up to there.
use Prim.Native.Nat.{◌-◌}
use lib.ListN.{length}
use Rattle.recording.proofs.Ignoring.{Noted}
use Rattle.recording.proofs.ignored.Given as goal

abbrev pub invariant-loop-n : goal.invariant-loop-n
invariant-loop-n l = Noted l.input l.from l.seen l.p

abbrev pub decreases-loop-n : goal.decreases-loop-n
decreases-loop-n l = length l.input - l.p
