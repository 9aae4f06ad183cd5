-- The fields of the record, byte by byte: of a cut one, or of a whole one.
use Prim.Native.Nat.{◌+◌}
use native.Mathlib.Omega.{arith}
use lib.ListN.{length}
use borrow.Author.Tests.{lt-ltb, le-ltb}
use Rattle.records.proofs.read.Goals as goal

pub returns-then-input-p-lt-LENGTH : goal.returns-then-input-p-lt-LENGTH
returns-then-input-p-lt-LENGTH c =
    let a = c.args in
    rw (lt-ltb (length a.input.now) (a.p + 6) (omega (arith, c.if-input-p-lt-LENGTH.true)))

pub returns : goal.returns
returns c =
    let a = c.args in
    rw (le-ltb (length a.input.now) (a.p + 6) (omega (arith, c.if-input-p-lt-LENGTH.false)), c.word_at-word.ensures, c.asked_by.ensures)
