-- Invariant: the topmost i screens are written.
use Prim.Native.Nat.{◌+◌}
use lib.ListN.{take}
use Rattle.model.proofs.WrittenLaws.{Wrote}
use Rattle.session.specs.Stored.{view_task}
use Rattle.image.proofs.write_screens.Given as goal

abbrev pub invariant-loop-i : goal.invariant-loop-i
invariant-loop-i l = Wrote l.fn.out l.at (take l.i (view_task l.t).screens) l.out (l.at + l.i)
