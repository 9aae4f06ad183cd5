-- Invariant: the place sought is the place in what is left, counted behind the roots that were passed.
use Prim.Native.Nat.{◌-◌, ◌≤◌}
use mathlib.Core.Path.{◌≡◌}
use lib.ListN.{length, drop}
use Rattle.model.specs.Lists.{find}
use Rattle.model.specs.Search.{akin}
use Rattle.search.proofs.Steps.{behind}
use Rattle.search.proofs.by_affinity.Given as goal

abbrev pub invariant-loop-i : goal.invariant-loop-i
invariant-loop-i l = (l.i ≤ length l.roots) × (find (akin l.table l.b) l.roots ≡ behind l.i (find (akin l.table l.b) (drop l.i l.roots)))

abbrev pub decreases-loop-i : goal.decreases-loop-i
decreases-loop-i l = length l.roots - l.i
