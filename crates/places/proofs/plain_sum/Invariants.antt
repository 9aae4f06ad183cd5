-- Invariant: the sum so far and the screens from x on decide.
use Prim.Native.Nat.{◌+◌, ◌*◌, ◌≤◌}
use mathlib.Core.Path.{◌≡◌}
use lib.ListN.{take, drop}
use Rattle.model.specs.Lists.{all}
use Rattle.places.specs.PlaceTests.{total, plain_screen}
use Rattle.places.proofs.plain_sum.Given as goal

abbrev pub invariant-loop-x : goal.invariant-loop-x
invariant-loop-x l =
    record {
      low : l.sum ≤ 255 * l.x-index;
      sum : total (take l.fn.h l.fn.t.screens) ≡ l.sum + total (drop l.x-index (take l.fn.h l.fn.t.screens));
      plain : all (plain_screen l.fn.table) (take l.fn.h l.fn.t.screens) ≡ all (plain_screen l.fn.table) (drop l.x-index (take l.fn.h l.fn.t.screens));
    }
