-- The line of kind 0 and of refusal 1, from the start of the buffer.
use native.Mathlib.Omega.{arith}
use Rattle.input.proofs.write_stop.Goals as goal

pub returns : goal.returns
returns c =
    let place = rw (c.refused.ensures, c.number.ensures) at c.write_line.ensures.place in
    let text = rw (c.refused.ensures, c.number.ensures) at c.write_line.ensures.text in
    record { length = omega (arith, place); text = text; bound = c.write_line.ensures.bound }
