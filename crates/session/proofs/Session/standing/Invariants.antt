-- Invariant: the tasks that were summed.
use Rattle.session.proofs.Standing.{Summed}
use Rattle.session.proofs.Session.standing.Given as goal

abbrev pub invariant-loop-t : goal.invariant-loop-t
invariant-loop-t l = Summed l.fn.self l.total l.t-index
