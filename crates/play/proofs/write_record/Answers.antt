-- The player's line, and the reason under that of a start.
use native.Mathlib.Omega.{arith}
use Rattle.model.specs.Player.{longest_line}
use Rattle.model.specs.Explained.{longest_reason}
use Rattle.model.proofs.WrittenLaws.{wrote, wrote-append}
use Rattle.play.proofs.Playing.{under-start, under-other}
use Rattle.play.proofs.write_record.Goals as goal

pub returns-then-kind : goal.returns-then-kind
returns-then-kind c =
    let a = c.args in
    let b = c.write_line-end.ensures.bound in
    let all = wrote-append (wrote longest_line (c.write_line-end.ensures.place, (c.write_line-end.ensures.text, c.write_line-end.ensures.bound))) (omega (arith, c.requires)) (wrote longest_reason (c.write_reason.ensures.place, (c.write_reason.ensures.text, c.write_reason.ensures.bound))) in
    rw (under-start a.words a.kind a.answer c.if-kind.true c.of.ensures)
    (record { place = all.place; text = all.text; bound = omega (arith, c.write_reason.ensures.bound) })

pub returns : goal.returns
returns c =
    let a = c.args in
    let e = c.write_line-end.ensures in
    rw (under-other a.words a.kind a.answer c.if-kind.false _) (record { place = e.place; text = e.text; bound = omega (arith, e.bound) })
