-- What is left of the list, the session there, and the screens created and closed up to there.
use lib.ListN.{length}
use Rattle.recording.proofs.Replaying.{Reached}
use Rattle.recording.proofs.after_calls.Given as goal

abbrev pub invariant-loop-n : goal.invariant-loop-n
invariant-loop-n l = Reached l.table l.calls l.fn.begun l.s l.left l.created l.closed

abbrev pub decreases-loop-n : goal.decreases-loop-n
decreases-loop-n l = length l.left
