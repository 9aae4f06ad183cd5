-- Invariant: the tasks so far are written.
use Prim.Native.Nat.{◌*◌, ◌≤◌}
use lib.ListN.{take}
use Rattle.model.specs.Image.{body_of}
use Rattle.model.proofs.WrittenLaws.{Wrote}
use Rattle.session.specs.Stored.{view}
use Rattle.image.proofs.write.Given as goal

abbrev pub invariant-loop-t : goal.invariant-loop-t
invariant-loop-t l = (l.at ≤ 34 * l.t-index) × Wrote l.fn.out 0 (body_of (take l.t-index (view l.fn.s).tasks)) l.out l.at
