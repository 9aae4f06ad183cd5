-- The endings are those of both recordings under the first one's table, which is the second one's too.
use mathlib.Core.Path.{◌≡◌, sym, ◌∙◌, ap}
use lib.Seq.{length-take-le}
use Rattle.model.specs.Table.{table_refusal}
use Rattle.session.specs.Stored.{view}
use Rattle.session.proofs.StoredLaws.{view-hold}
use Rattle.endings.specs.Endings.{ending_of}
use Rattle.endings.proofs.Tables.{table-part}
use Rattle.endings.proofs.compare.Goals as goal

pub ending_of-t-requires : goal.ending_of-t-requires
ending_of-t-requires c = let p = c.requires in ap table_refusal (sym p.1) ∙ p.0

pub slice_bounds-first_difference-end : goal.slice_bounds-first_difference-end
slice_bounds-first_difference-end c = sym (length-take-le _ _ c.table_end-end.ensures.bound)

pub first_difference-requires : goal.first_difference-requires
first_difference-requires c =
    let end = c.table_end-end in
    let t = table-part c.args.first.now end.result end.ensures.length in
    rw t (c.ending_of-s.ensures.sound, rw c.requires.1 c.ending_of-t.ensures.sound)

pub returns : goal.returns
returns c =
    let a = c.args in
    let end = c.table_end-end in
    let t = table-part a.first.now end.result end.ensures.length in
    let s = c.ending_of-s in
    let u = c.ending_of-t in
    let f : view s.result ≡ ending_of a.first.now = ap view s.ensures.session ∙ view-hold (ending_of a.first.now) in
    let g : view u.result ≡ ending_of a.second.now = ap view u.ensures.session ∙ view-hold (ending_of a.second.now) in
    let q = c.first_difference.ensures in
    record { apart = rw (t, f, g) at q.apart; same = rw (f, g) at q.same; alike = rw (t, f, g) at q.alike; bound = q.bound }
