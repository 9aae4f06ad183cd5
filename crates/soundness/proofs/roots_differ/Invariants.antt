-- Invariant: the pairs of the roots from i on decide.
use mathlib.Core.Path.{◌≡◌}
use lib.ListN.{drop}
use Rattle.model.specs.Lists.{pairwise}
use Rattle.soundness.specs.Tests.{may_be_roots}
use Rattle.soundness.proofs.roots_differ.Given as goal

abbrev pub invariant-loop-i : goal.invariant-loop-i
invariant-loop-i l = pairwise (may_be_roots l.table) l.roots ≡ pairwise (may_be_roots l.table) (drop l.i l.roots)
