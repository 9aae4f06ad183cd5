-- The container so far, and then the bytes that are left, leave what the whole list does.
use lib.ListN.{length}
use Rattle.container_lists.proofs.Playing.{Reached}
use Rattle.container_lists.proofs.play.Given as goal

abbrev pub invariant-loop-left : goal.invariant-loop-left
invariant-loop-left l = Reached l.calls l.c l.left

abbrev pub decreases-loop-left : goal.decreases-loop-left
decreases-loop-left l = length l.left
