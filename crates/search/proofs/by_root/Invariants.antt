-- `search::by_root` meets its contract. The loop's invariant: the place sought is the place in what is left, counted
-- behind the roots that were passed.
use Prim.Native.Nat.{ℕ, ◌-◌, ◌≤◌}
use mathlib.Core.Path.{◌≡◌}
use mathlib.Core.Bool.{Bool}
use lib.ListN.{length, drop}
use lib.Dec.{eqb}
use Rattle.model.specs.Lists.{find}
use Rattle.search.proofs.Steps.{behind}
use Rattle.search.proofs.by_root.Given as goal

abbrev pub root_is : ℕ → ℕ → Bool
root_is b x = eqb x b

abbrev pub invariant-loop-i : goal.invariant-loop-i
invariant-loop-i l = (l.i ≤ length l.roots) × (find (root_is l.b) l.roots ≡ behind l.i (find (root_is l.b) (drop l.i l.roots)))

abbrev pub decreases-loop-i : goal.decreases-loop-i
decreases-loop-i l = length l.roots - l.i
