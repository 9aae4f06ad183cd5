-- Invariant: each mode below x fits.
use mathlib.Core.Path.{◌≡◌}
use mathlib.Core.Bool.{true}
use lib.Dec.{leb}
use Rattle.model.specs.Lists.{all_below}
use Rattle.model.specs.Table.{mode_of, single_instance}
use Rattle.table.proofs.modes_fit.Given as goal

abbrev pub invariant-loop-x : goal.invariant-loop-x
invariant-loop-x l = all_below l.x (λ y. leb (mode_of l.table y) single_instance) ≡ true
