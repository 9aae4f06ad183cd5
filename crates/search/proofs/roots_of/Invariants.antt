-- Invariant: the roots before i are stored.
use mathlib.Core.Path.{◌≡◌}
use lib.ListN.{length, take}
use Rattle.session.specs.Stored.{roots_of}
use Rattle.search.proofs.roots_of.Given as goal

abbrev pub invariant-loop-i : goal.invariant-loop-i
invariant-loop-i l = (length l.roots ≡ 16) × (take l.i l.roots ≡ take l.i (roots_of l.s.tasks))
