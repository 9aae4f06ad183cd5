-- What is left of the recording, and the records of the share before it.
use lib.ListN.{length}
use Rattle.model.specs.Player.{record_bytes}
use Rattle.endings.proofs.Sharing.{Passed}
use Rattle.endings.proofs.portion_of.Given as goal

abbrev pub invariant-loop-left : goal.invariant-loop-left
invariant-loop-left l = Passed l.share (record_bytes l.input) l.met l.bytes l.i l.left

abbrev pub decreases-loop-left : goal.decreases-loop-left
decreases-loop-left l = length l.left
