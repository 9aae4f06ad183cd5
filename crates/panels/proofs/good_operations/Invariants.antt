-- The count, and the kinds one by one.
use mathlib.Core.Path.{◌≡◌}
use mathlib.Core.Bool.{true}
use lib.ListN.{length}
use Rattle.model.specs.Lists.{all}
use Rattle.panels.specs.Operations.{operations_in, good_count, good_kind}
use Rattle.panels.proofs.good_operations.Given as goal

abbrev pub invariant-loop-left : goal.invariant-loop-left
invariant-loop-left l =
    (good_count (length l.operations) ≡ true) × (all good_kind (operations_in l.operations) ≡ all good_kind (operations_in l.left))

abbrev pub decreases-loop-left : goal.decreases-loop-left
decreases-loop-left l = length l.left
