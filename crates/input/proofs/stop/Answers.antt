-- The line, or nothing where there is less room than for the longest.
use mathlib.Core.Path.{sym, ◌∙◌, ap}
use native.Mathlib.Omega.{arith}
use lib.ListN.{length}
use Rattle.model.specs.Written.{written}
use Rattle.model.proofs.WrittenLaws.{written-nil}
use Rattle.input.proofs.TextLaws.{stop-line, stop-none}
use Rattle.input.proofs.stop.Goals as goal

pub returns-then-out-lt-LONGEST : goal.returns-then-out-lt-LONGEST
returns-then-out-lt-LONGEST c =
    let out = c.args.out.now in
    let t = stop-none out (omega arith) in
    record { length = ap length (sym t); text = sym (written-nil out 0) ∙ ap (written out 0) (sym t) }

pub returns : goal.returns
returns c =
    let out = c.args.out.now in
    let w = c.write_stop.ensures in
    let t = stop-line out (omega arith) in
    record { length = rw t w.length; text = rw t w.text }
