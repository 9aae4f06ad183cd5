-- The loop's invariant: the place that is reached, and the notes up to there.
use Prim.Native.Nat.{◌-◌}
use lib.ListN.{length}
use Rattle.player_files.proofs.Restoring.{Met}
use Rattle.player_files.proofs.restores.Given as goal

abbrev pub invariant-loop-p : goal.invariant-loop-p
invariant-loop-p l = Met l.block l.met l.i l.p

abbrev pub decreases-loop-p : goal.decreases-loop-p
decreases-loop-p l = length l.block - l.p
