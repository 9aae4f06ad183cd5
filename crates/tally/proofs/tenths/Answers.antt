-- The rounded mean. It fits, since no height is above 32.
use Prim.Native.Nat.{◌*◌}
use native.Mathlib.Omega.{arith}
use Rattle.tally.proofs.MeanLaws.{mean-none, mean-some, half-small}
use Rattle.tally.proofs.tenths.Goals as goal

pub returns-then-accepted-eq0 : goal.returns-then-accepted-eq0
returns-then-accepted-eq0 c = let a = c.args in mean-none a.sum a.accepted c.if-accepted-eq0.true

pub overflow_cast-result : goal.overflow_cast-result
overflow_cast-result c =
    rw (c.half_to_even.ensures, c.from.ensures)
    (record { fits = half-small (10 * c.args.sum) c.args.accepted (omega arith) (omega arith) })

pub returns : goal.returns
returns c =
    let a = c.args in
    rw (c.half_to_even.ensures, c.from.ensures) (mean-some a.sum a.accepted c.if-accepted-eq0.false)
