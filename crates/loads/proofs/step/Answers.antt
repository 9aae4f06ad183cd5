-- One step, by the bit that is dropped.
use Prim.Native.Nat.{◌%◌}
use native.Mathlib.Omega.{arith}
use borrow.Author.Tests.{eq-eqb, ne_eqb}
use Rattle.loads.specs.Generator.{step}
use Rattle.loads.proofs.step.Goals as goal

pub returns-then-state-eq1 : goal.returns-then-state-eq1
unfolding step
returns-then-state-eq1 c = rw (eq-eqb (c.args.state % 2) 1 (omega arith))

pub returns : goal.returns
unfolding step
returns c = rw (ne_eqb (c.args.state % 2) 1 (λ e. omega arith))
