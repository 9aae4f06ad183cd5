-- Some records are run, and those behind p are left.
use mathlib.Core.Path.{◌≡◌}
use mathlib.Core.List.{List, ◌++◌}
use lib.ListN.{length, drop}
use Prim.Native.Nat.{◌-◌}
use Rattle.model.specs.Player.{Record, records_in}
use Rattle.session.specs.Stored.{view}
use Rattle.play.proofs.Playing.{Reached}
use Rattle.play.proofs.run.Given as goal

abbrev pub invariant-loop-p : goal.invariant-loop-p
invariant-loop-p l =
    (rs : List Record) × ((records_in l.input ≡ rs ++ records_in (drop l.p l.input))
    × Reached l.manner l.table (view l.fn.from) l.fn.tally rs l.fn.out l.s l.told l.out l.at)

abbrev pub decreases-loop-p : goal.decreases-loop-p
decreases-loop-p l = length l.input - l.p
