-- Without a byte N is 0; otherwise it is the first byte.
use mathlib.Core.Path.{◌≡◌}
use native.Mathlib.Omega.{arith}
use lib.ListN.{get_or, get_or-eq_default}
use Rattle.table.proofs.length_said.Goals as goal

pub returns-then-input-eq0 : goal.returns-then-input-eq0
returns-then-input-eq0 c =
    let l = c.args.input.now in
    let none : get_or l 0 0 ≡ 0 = get_or-eq_default l 0 (omega arith) in
    omega arith
