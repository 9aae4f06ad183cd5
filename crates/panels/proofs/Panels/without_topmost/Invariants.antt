-- All panels so far, and all without the topmost p.
use mathlib.Core.Path.{◌≡◌}
use lib.ListN.{take}
use Rattle.panels.specs.Operations.{remove_topmost}
use Rattle.panels.specs.Stored.{hold_panels}
use Rattle.panels.proofs.Panels.without_topmost.Given as goal

abbrev pub invariant-loop-x : goal.invariant-loop-x
invariant-loop-x l =
    (l.all ≡ hold_panels (take l.x-index l.x-items)) × (l.out ≡ hold_panels (remove_topmost l.p (take l.x-index l.x-items)))
