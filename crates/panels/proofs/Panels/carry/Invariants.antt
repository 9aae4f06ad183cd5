-- What is left of the operations, on the panels so far, makes what all of them make.
use mathlib.Core.Path.{◌≡◌}
use lib.ListN.{length}
use Rattle.panels.specs.Operations.{operations_in}
use Rattle.panels.specs.Stored.{view_panels, IsClean, carried_or37}
use Rattle.panels.proofs.Panels.carry.Given as goal

abbrev pub invariant-loop-left : goal.invariant-loop-left
invariant-loop-left l =
    IsClean l.out
    × (carried_or37 (operations_in l.operations) (view_panels l.fn.self) ≡ carried_or37 (operations_in l.left) (view_panels l.out))

abbrev pub decreases-loop-left : goal.decreases-loop-left
decreases-loop-left l = length l.left
