-- Invariant: the sum is the length of the tasks so far, and of the trailer.
use Prim.Native.Nat.{◌+◌, ◌*◌, ◌≤◌}
use mathlib.Core.Path.{◌≡◌}
use lib.ListN.{length, take}
use Rattle.model.specs.Image.{body_of}
use Rattle.session.specs.Stored.{view}
use Rattle.image.proofs.length.Given as goal

abbrev pub invariant-loop-t : goal.invariant-loop-t
invariant-loop-t l = (l.sum ≡ length (body_of (take l.t-index (view l.fn.s).tasks)) + 6) × (l.sum ≤ 34 * l.t-index + 6)
