-- The parts that are lent are the table and the records, where the input begins with a table.
use mathlib.Core.Path.{◌≡◌, sym, ◌∙◌, ap}
use lib.Seq.{length-take-le}
use Rattle.model.specs.Session.{fresh}
use Rattle.session.specs.Stored.{view}
use Rattle.session.proofs.StoredLaws.{view-fresh}
use Rattle.table.proofs.BeginningLaws.{starts_with, starts-otherwise}
use Rattle.play.proofs.Replies.{fresh-playable}
use Rattle.input.proofs.TextLaws.{within, text-stop, text-table, text-whole, table-part, records-part}
use Rattle.input.proofs.player_text.Goals as goal

pub slice_bounds-play-end : goal.slice_bounds-play-end
slice_bounds-play-end c = sym (length-take-le _ _ (within c.args.input.now c.beginning_of.ensures c.in-Ok.is))

pub play-requires : goal.play-requires
play-requires c = rw c.fresh.ensures (fresh-playable _)

pub returns-in_default : goal.returns-in_default
returns-in_default c =
    let a = c.args in
    let w = c.stop.ensures in
    let t = text-stop a.input.now a.out.now (starts-otherwise a.input.now c.beginning_of.result c.beginning_of.ensures c.in_default.not-Ok) in
    record { length = rw t w.length; text = rw t w.text; whole = text-whole a.input.now a.out.now }

pub returns : goal.returns
returns c =
    let a = c.args in
    let b = starts_with c.args.input.now c.beginning_of.ensures c.in-Ok.is in
    let n = c.in-Ok.long in
    let p = c.play.ensures in
    let v : view c.fresh.result ≡ fresh = ap view c.fresh.ensures ∙ view-fresh in
    let t = text-table a.input.now a.out.now b.0 in
    let written = rw (table-part a.input.now n b.1, records-part a.input.now n b.1, v) at p.written in
    let text = rw (table-part a.input.now n b.1, records-part a.input.now n b.1, v) at p.text in
    record { length = rw t written; text = rw t text; whole = text-whole a.input.now a.out.now }
