-- Both sessions and their last answers are reached by as many Backs as were counted. The screens left fall.
use Rattle.model.specs.Session.{screens_in}
use Rattle.session.specs.Stored.{view}
use Rattle.difference.proofs.Reached.{Both}
use Rattle.difference.proofs.first_difference.Given as goal

abbrev pub invariant-loop-s : goal.invariant-loop-s
invariant-loop-s l = Both l.table (view l.fn.first) (view l.fn.second) l.backs l.s l.t l.a l.b

abbrev pub decreases-loop-s : goal.decreases-loop-s
decreases-loop-s l = screens_in (view l.s).tasks
