-- The line is that of the report of the answers' tally.
use mathlib.Core.Path.{sym, ◌∙◌, ap}
use native.Mathlib.Omega.{arith}
use lib.ListN.{length}
use Rattle.model.specs.Written.{written}
use Rattle.model.proofs.WrittenLaws.{written-nil}
use Rattle.input.proofs.WrittenLaws.{depth-none, depth-line}
use Rattle.input.proofs.depth_text.Goals as goal

pub returns-then-out-lt-LONGEST : goal.returns-then-out-lt-LONGEST
returns-then-out-lt-LONGEST c =
    let a = c.args in
    let t = depth-none a.input.now a.out.now (omega arith) in
    record { length = ap length (sym t); text = sym (written-nil a.out.now 0) ∙ ap (written a.out.now 0) (sym t) }

pub returns : goal.returns
returns c =
    let a = c.args in
    let t = depth-line a.input.now a.out.now (omega arith) c.tally_of.ensures in
    let long = rw c.report.ensures.numbers at c.write_report.ensures.length in
    let text = rw c.report.ensures.numbers at c.write_report.ensures.text in
    record { length = rw t long; text = rw t text }
