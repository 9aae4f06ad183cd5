-- The four tests are the check. The product fits: both numbers are at most what their types hold.
use Prim.Native.Nat.{◌≤◌}
use native.Mathlib.Omega.{arith}
use native.Mathlib.Nat.{mul-le-mul}
use borrow.Author.Rules.{rules}
use Rattle.tally.proofs.Checks.{test-same}
use Rattle.tally.proofs.Tally.is_tally.Goals as goal

pub overflow_mul-result : goal.overflow_mul-result
overflow_mul-result c =
    let l : c.from-3.result ≤ 65535 = omega arith in
    let m : c.from-greatest.result ≤ 255 = omega arith in
    let p = mul-le-mul l m in
    search rules

pub returns : goal.returns
returns c =
    rw (c.from.ensures, c.from-2.ensures, c.from-greatest.ensures, c.from-3.ensures)
    (test-same c.args.self)
