-- What stands, pushed one by one.
use mathlib.Core.Path.{◌≡◌}
use lib.ListN.{take}
use Rattle.panels.specs.Stored.{hold_panels}
use Rattle.panels.proofs.Panels.cleaned.Given as goal

abbrev pub invariant-loop-x : goal.invariant-loop-x
invariant-loop-x l = l.out ≡ hold_panels (take l.x-index l.x-items)
