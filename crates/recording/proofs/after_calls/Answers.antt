-- One record more is made, or the list ends.
use mathlib.Core.Path.{◌∙◌, ap}
use mathlib.Core.List.{List}
use Prim.Native.Nat.{ℕ}
use Rattle.session.specs.Stored.{view}
use Rattle.session.proofs.Known.{sized}
use Rattle.session.proofs.StoredLaws.{held, sound-blank, sound-view}
use Rattle.recording.specs.Counts.{reply_to, created_for}
use Rattle.recording.specs.CallBytes.{call_read}
use Rattle.recording.proofs.Replaying.{reached-start, reached-more, reached-end, reached-ready}
use Rattle.recording.proofs.after_calls.Goals as goal

pub loop-n-init : goal.loop-n-init
loop-n-init c =
    let a = c.args in
    reached-start a.table.now a.calls.now a.begun (sized a.begun _ c.well_formed.1.0) c.requires.0 c.requires.1

pub make_with_image-made-requires-clause-ready : goal.make_with_image-made-requires-clause-ready
make_with_image-made-requires-clause-ready c = reached-ready c.loop-n.invariant c.requires.0.good

pub loop-n-preserved : goal.loop-n-preserved
loop-n-preserved c =
    let tb = c.args.table.now in
    let l = c.loop-n in
    let n = c.in-Some.n in
    let part = c.split_at.ensures in
    let made = c.make_with_image-made in
    rw (part.back, c.from-created.ensures, c.from-closed.ensures)
    (reached-more l.invariant c.requires.0.good c.in-Some.ensures.0 n c.in-Some.ensures.1 made.result.reply
    (made.ensures.reply ∙ ap (λ (m : List ℕ). reply_to tb l.s (call_read m)) part.front) made.result.created
    (made.ensures.created ∙ ap (λ (m : List ℕ). created_for tb (view l.s) (call_read m)) part.front))

pub returns : goal.returns
returns c =
    let a = c.args in
    let tb = a.table.now in
    let blank = sound-blank tb a.begun c.requires.0.sound in
    reached-end c.loop-n.invariant c.requires.0.good (held a.begun (sized a.begun _ c.well_formed.1.0) blank)
    (sound-view tb a.begun c.requires.0.sound) c.in_default.ensures
