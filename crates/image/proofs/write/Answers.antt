-- One task more is written behind those before it, and the trailer behind them all.
use Prim.Native.Nat.{◌+◌, ◌≤◌}
use mathlib.Core.Path.{◌≡◌, ◌∙◌}
use native.Mathlib.Nat.{zero-add}
use native.Mathlib.Omega.{arith}
use lib.ListN.{length, take, length-take}
use lib.Seq.{get_or-take, length-take-le}
use Rattle.model.specs.Image.{image}
use Rattle.model.proofs.ImageLaws.{image-length}
use Rattle.model.proofs.WrittenLaws.{Wrote, wrote, wrote-nil, wrote-append, written_start}
use Rattle.session.specs.Stored.{view, no_task}
use Rattle.session.proofs.Known.{Sized, sized}
use Rattle.session.proofs.StoredLaws.{blank-few}
use Rattle.image.proofs.Bodies.{body-part, body-next, image-wrote}
use Rattle.image.proofs.write.Goals as goal

pub shared_ref_as_front-tasks : goal.shared_ref_as_front-tasks
shared_ref_as_front-tasks c = omega (arith, blank-few c.args.s c.requires.0.blank)

pub loop-t-init : goal.loop-t-init
loop-t-init c = (omega arith, wrote-nil c.args.out.now 0)

pub write_task-at-requires : goal.write_task-at-requires
write_task-at-requires c =
    let s = c.args.s in
    let z : Sized s = sized s _ c.well_formed.0 in
    let n : s.n ≤ length s.tasks = omega (arith, blank-few s c.requires.0.blank) in
    let l : length (take s.n s.tasks) ≡ s.n = length-take-le s.n s.tasks n in
    let i = c.loop-t.t-index in
    let k = body-next s z c.requires.0.blank i (omega arith) in
    let at = c.loop-t.invariant.1.place in
    let long = image-length (view s) in
    let part = body-part (i + 1) (view s).tasks in
    rw (get_or-take s.n s.tasks i no_task (omega arith)) (k.low, omega (arith, k.long))

pub loop-t-preserved : goal.loop-t-preserved
loop-t-preserved c =
    let s = c.args.s in
    let z : Sized s = sized s _ c.well_formed.0 in
    let n : s.n ≤ length s.tasks = omega (arith, blank-few s c.requires.0.blank) in
    let l : length (take s.n s.tasks) ≡ s.n = length-take-le s.n s.tasks n in
    let i = c.loop-t.t-index in
    let k = body-next s z c.requires.0.blank i (omega arith) in
    let e = c.write_task-at.ensures in
    let at = c.loop-t.invariant.1.place in
    let long = image-length (view s) in
    let part = body-part i (view s).tasks in
    let w = wrote-append c.loop-t.invariant.1 (omega arith) (wrote 34 (e.place, (e.bytes, e.bound))) in
    (omega (arith, e.bound), rw (k.bytes, ← (get_or-take s.n s.tasks i no_task (omega arith))) w)

pub write_trailer-requires : goal.write_trailer-requires
write_trailer-requires c =
    let s = c.args.s in
    let few = blank-few s c.requires.0.blank in
    let at = c.loop-t.invariant.1.place in
    let long = image-length (view s) in
    let part = body-part c.loop-t.t-index (view s).tasks in
    let m = length-take s.n s.tasks in
    (omega arith, (omega arith, c.requires.0.edition))

pub returns : goal.returns
returns c =
    let s = c.args.s in
    let d = c.args.out.now in
    let z : Sized s = sized s _ c.well_formed.0 in
    let n : s.n ≤ length s.tasks = omega (arith, blank-few s c.requires.0.blank) in
    let l : length (take s.n s.tasks) ≡ s.n = length-take-le s.n s.tasks n in
    let end = c.write_trailer in
    let at = c.loop-t.invariant.1.place in
    let long = image-length (view s) in
    let part = body-part c.loop-t.t-index (view s).tasks in
    let w : Wrote d 0 (image (view s)) end.new.out end.result =
    image-wrote s z c.requires.0.blank c.loop-t.t-index (omega arith) c.loop-t.invariant.1 (omega arith)
    c.main_byte.ensures (record { place = end.ensures.place; text = end.ensures.bytes }) in
    record { length = w.place ∙ zero-add (length (image (view s))); bytes = w.text ∙ written_start d (image (view s)) }
