-- The parts that are lent are the table and the calls.
use mathlib.Core.Path.{sym, ◌∙◌}
use lib.Seq.{length-take-le}
use Rattle.model.specs.Player.{table_in, record_bytes}
use Rattle.endings.proofs.Tables.{table-part, calls-part, replayed-good}
use Rattle.endings.proofs.ending_of.Goals as goal

pub slice_bounds-replay-end : goal.slice_bounds-replay-end
slice_bounds-replay-end c = sym (length-take-le _ _ c.table_end-end.ensures.bound)

pub returns : goal.returns
returns c =
    let l = c.args.input.now in
    let end = c.table_end-end in
    let t = table-part l end.result end.ensures.length in
    let d = calls-part l end.result end.ensures.length in
    let r = c.replay.ensures in
    record {
      session = (rw (t, d) at r.session) ∙ replayed-good (table_in l) (record_bytes l) c.requires;
      sound = record { good = c.requires; sound = rw t at r.sound };
    }
