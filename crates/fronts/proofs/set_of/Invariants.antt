-- The set is that of the words before the index.
use mathlib.Core.Path.{◌≡◌}
use Rattle.fronts.specs.Fronts.{fronts_among}
use Rattle.fronts.proofs.set_of.Given as goal

abbrev pub invariant-loop-i : goal.invariant-loop-i
invariant-loop-i l = l.set ≡ fronts_among l.on.table.now l.on.session.now l.b l.mask l.value l.i
