-- `line::write_decimal` meets its contract: by the number of digits, the stores one after the other are the bytes written.
use Prim.Native.Nat.{◌/◌, ◌%◌}
use mathlib.Core.List.{[], ◌∷◌}
use native.Mathlib.Numerals.{towards_suc}
use native.Mathlib.Omega.{arith}
use lib.ListN.{length-set}
use Rattle.model.specs.Player.{digit}
use Rattle.model.proofs.WrittenLaws.{written-sets}
use Rattle.line.proofs.LineLaws.{decimal-one, decimal-two, decimal-three}
use Rattle.line.proofs.write_decimal.Goals as goal

pub bounds-out-at-then-x-lt10 : goal.bounds-out-at-then-x-lt10
bounds-out-at-then-x-lt10 c = simp length-set (omega arith)

pub returns-then-x-lt10 : goal.returns-then-x-lt10
returns-then-x-lt10 c =
    let a = c.args in
    let e = decimal-one a.x c.if-x-lt10.true in
    let w = written-sets a.out.now a.at (digit a.x ∷ a.end ∷ []) (omega arith) in
    record { place = rw e; text = rw e (simp towards_suc w); bound = omega arith }

pub bounds-out-at-then-x-lt100-2 : goal.bounds-out-at-then-x-lt100-2
bounds-out-at-then-x-lt100-2 c = simp length-set (omega arith)

pub bounds-out-at-then-x-lt100-3 : goal.bounds-out-at-then-x-lt100-3
bounds-out-at-then-x-lt100-3 c = simp length-set (omega arith)

pub returns-then-x-lt100 : goal.returns-then-x-lt100
returns-then-x-lt100 c =
    let a = c.args in
    let e = decimal-two a.x c.if-x-lt10.false c.if-x-lt100.true in
    let w = written-sets a.out.now a.at (digit (a.x / 10) ∷ digit (a.x % 10) ∷ a.end ∷ []) (omega arith) in
    record { place = rw e; text = rw e (simp towards_suc w); bound = omega arith }

pub bounds-out-at-3 : goal.bounds-out-at-3
bounds-out-at-3 c = simp length-set (omega arith)

pub bounds-out-at-4 : goal.bounds-out-at-4
bounds-out-at-4 c = simp length-set (omega arith)

pub bounds-out-at-5 : goal.bounds-out-at-5
bounds-out-at-5 c = simp length-set (omega arith)

pub returns : goal.returns
returns c =
    let a = c.args in
    let e = decimal-three a.x c.if-x-lt100.false in
    let w = written-sets a.out.now a.at (digit (a.x / 100) ∷ digit (a.x / 10 % 10) ∷ digit (a.x % 10) ∷ a.end ∷ []) (omega arith) in
    record { place = rw e; text = rw e (simp towards_suc w); bound = omega arith }
