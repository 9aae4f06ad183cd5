-- Invariant: the test so far and the roots from here on decide.
use mathlib.Core.Path.{◌≡◌}
use mathlib.Core.Bool.{◌&&◌}
use lib.ListN.{drop}
use Rattle.model.specs.Lists.{all}
use Rattle.places.specs.PlaceTests.{is_root}
use Rattle.soundness.proofs.all_roots.Given as goal

abbrev pub invariant-loop-root : goal.invariant-loop-root
invariant-loop-root l = all is_root l.fn.roots ≡ (l.all && all is_root (drop l.root-index l.fn.roots))
