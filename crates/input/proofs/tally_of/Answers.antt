-- The parts that are lent are the table and the records, where the input begins with a table.
use mathlib.Core.Path.{◌≡◌, sym, ◌∙◌, ap}
use lib.Seq.{length-take-le}
use Rattle.model.specs.Session.{fresh}
use Rattle.session.specs.Stored.{view}
use Rattle.session.proofs.StoredLaws.{view-fresh}
use Rattle.table.proofs.BeginningLaws.{starts_with, starts-otherwise}
use Rattle.tally.specs.Tallies.{tally_of}
use Rattle.play.proofs.Replies.{fresh-playable}
use Rattle.input.proofs.TextLaws.{within, table-part, records-part}
use Rattle.input.proofs.WrittenLaws.{answers-none, answers-tally}
use Rattle.input.proofs.tally_of.Goals as goal

pub slice_bounds-tally_records-end : goal.slice_bounds-tally_records-end
slice_bounds-tally_records-end c = sym (length-take-le _ _ (within c.args.input.now c.beginning_of.ensures c.in-Ok.is))

pub tally_records-requires : goal.tally_records-requires
tally_records-requires c = rw c.fresh.ensures (fresh-playable _)

pub returns-in_default : goal.returns-in_default
returns-in_default c =
    let l = c.args.input.now in
    c.none.ensures ∙ ap tally_of (sym (answers-none l (starts-otherwise l c.beginning_of.result c.beginning_of.ensures c.in_default.not-Ok)))

pub returns : goal.returns
returns c =
    let l = c.args.input.now in
    let b = starts_with c.args.input.now c.beginning_of.ensures c.in-Ok.is in
    let n = c.in-Ok.long in
    let v : view c.fresh.result ≡ fresh = ap view c.fresh.ensures ∙ view-fresh in
    let q = rw (table-part l n b.1, records-part l n b.1, v, c.none-2.ensures) at c.tally_records.ensures.tally in
    q ∙ answers-tally l b.0
