-- Invariant: the first i places are stored.
use mathlib.Core.Path.{◌≡◌}
use lib.ListN.{set}
use Rattle.session.specs.Stored.{with_screens}
use Rattle.session.proofs.Storing.{storing}
use Rattle.session.proofs.Task.with_screen.Given as goal

abbrev pub invariant-loop-i : goal.invariant-loop-i
invariant-loop-i l = l.out ≡ with_screens l.initial.out (storing l.initial.out.screens (set l.initial.out.screens l.at l.b) l.i)
