-- One digit, or all but the last digit and then the last.
use Prim.Native.Nat.{◌+◌, ◌%◌}
use mathlib.Core.Path.{◌≡◌}
use mathlib.Core.List.{[], ◌∷◌}
use native.Mathlib.Omega.{arith}
use lib.ListN.{length}
use Rattle.model.specs.Player.{digit, decimal}
use Rattle.model.proofs.WrittenLaws.{written-sets}
use Rattle.line.proofs.LineLaws.{decimal-one, decimal-length}
use Rattle.endings.proofs.Numbers.{decimal-last}
use Rattle.endings.proofs.write_number.Goals as goal

pub returns-then-x-lt10 : goal.returns-then-x-lt10
returns-then-x-lt10 c =
    let a = c.args in
    let e = decimal-one a.x c.if-x-lt10.true in
    let m : a.x % 10 ≡ a.x = omega arith in
    let w = written-sets a.out.now a.at (digit a.x ∷ []) (omega arith) in
    record { place = rw e; bytes = rw (e, m) w; bound = omega arith }

pub returns : goal.returns
returns c =
    let x = c.args.x in
    let e = decimal-last x (omega arith) c.requires.0 in
    let l = decimal-length x in
    let place : c.write_decimal.result ≡ c.args.at + length (decimal x) = rw e c.write_decimal.ensures.place in
    record { place = place; bytes = rw e c.write_decimal.ensures.text; bound = omega arith }
