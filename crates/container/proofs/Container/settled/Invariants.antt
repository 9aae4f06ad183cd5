-- The container of these panels, with the first steps.
use mathlib.Core.Path.{◌≡◌}
use mathlib.Core.List.{map}
use lib.ListN.{take}
use Rattle.panels.specs.Stored.{view_panels}
use Rattle.container.specs.Calls.{state}
use Rattle.container.specs.Stored.{hold}
use Rattle.container.proofs.Container.settled.Given as goal

abbrev pub invariant-loop-q : goal.invariant-loop-q
invariant-loop-q l = l.out ≡ hold (state (view_panels l.initial.out.now) (map view_panels (take l.q-index l.q-items)))
