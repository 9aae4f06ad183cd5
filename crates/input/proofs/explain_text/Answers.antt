-- The parts that are lent are the table and the records, where the input begins with a table; and the room is asked for before.
use mathlib.Core.Path.{◌≡◌, sym, ◌∙◌, ap}
use native.Mathlib.Omega.{arith}
use lib.ListN.{length}
use lib.Seq.{length-take-le}
use Rattle.model.specs.Session.{fresh}
use Rattle.session.specs.Stored.{view}
use Rattle.session.proofs.StoredLaws.{view-fresh}
use Rattle.table.proofs.BeginningLaws.{starts_with, starts-otherwise}
use Rattle.model.specs.Written.{written}
use Rattle.model.proofs.WrittenLaws.{written-nil}
use Rattle.play.proofs.Replies.{fresh-playable}
use Rattle.input.proofs.TextLaws.{within, table-part, records-part}
use Rattle.input.proofs.WrittenLaws.{explain-stop, explain-short, explain-table}
use Rattle.input.proofs.explain_text.Goals as goal

pub slice_bounds-explain-end : goal.slice_bounds-explain-end
slice_bounds-explain-end c = sym (length-take-le _ _ (within c.args.input.now c.beginning_of.ensures c.in-Ok.is))

pub returns-in_default : goal.returns-in_default
returns-in_default c =
    let a = c.args in
    let w = c.stop.ensures in
    let t = explain-stop a.words a.input.now a.out.now (starts-otherwise a.input.now c.beginning_of.result c.beginning_of.ensures c.in_default.not-Ok) in
    record { length = rw t w.length; text = rw t w.text }

-- too little room
pub returns-then-out-count_records : goal.returns-then-out-count_records
returns-then-out-count_records c =
    let a = c.args in
    let b = starts_with c.args.input.now c.beginning_of.ensures c.in-Ok.is in
    let counted = rw (records-part a.input.now c.in-Ok.long b.1) at c.count_records.ensures in
    let t = explain-short a.words a.input.now a.out.now b.0 (omega arith) in
    record { length = ap length (sym t); text = sym (written-nil a.out.now 0) ∙ ap (written a.out.now 0) (sym t) }

pub explain-requires-clause-playable : goal.explain-requires-clause-playable
explain-requires-clause-playable c = rw c.fresh.ensures (fresh-playable _)

pub returns : goal.returns
returns c =
    let a = c.args in
    let b = starts_with c.args.input.now c.beginning_of.ensures c.in-Ok.is in
    let n = c.in-Ok.long in
    let counted = rw (records-part a.input.now n b.1) at c.count_records.ensures in
    let v : view c.fresh.result ≡ fresh = ap view c.fresh.ensures ∙ view-fresh in
    let t = explain-table a.words a.input.now a.out.now b.0 (omega arith) in
    let written = rw (table-part a.input.now n b.1, records-part a.input.now n b.1, v) at c.explain.ensures.written in
    let text = rw (table-part a.input.now n b.1, records-part a.input.now n b.1, v) at c.explain.ensures.text in
    record { length = rw t written; text = rw t text }
