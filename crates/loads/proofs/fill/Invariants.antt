-- The first i records are written, and the state is that after them.
use Prim.Native.Nat.{◌*◌}
use mathlib.Core.Path.{◌≡◌}
use Rattle.model.proofs.WrittenLaws.{Wrote}
use Rattle.loads.specs.Generator.{records_from, state_after}
use Rattle.loads.proofs.fill.Given as goal

abbrev pub invariant-loop-i : goal.invariant-loop-i
invariant-loop-i l = record {
  state : l.state ≡ state_after l.seed l.i;
  bytes : Wrote l.initial.out 0 (records_from l.n l.seed l.i) l.out (6 * l.i);
}
