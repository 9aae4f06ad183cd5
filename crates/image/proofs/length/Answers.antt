-- Each task adds its root, its height and its screens.
use Prim.Native.Nat.{◌≤◌}
use mathlib.Core.Path.{◌≡◌, ap}
use native.Mathlib.Omega.{arith}
use lib.ListN.{length, get_or, take}
use lib.Seq.{get_or-take, length-take-le}
use Rattle.model.proofs.ImageLaws.{image-length}
use Rattle.session.specs.declared.Task.{Task}
use Rattle.session.specs.Stored.{view, no_task}
use Rattle.session.proofs.Known.{Sized, sized}
use Rattle.session.proofs.StoredLaws.{blank-few}
use Rattle.image.proofs.Bodies.{body-whole, body-next}
use Rattle.image.proofs.length.Goals as goal

pub shared_ref_as_front-t-items : goal.shared_ref_as_front-t-items
shared_ref_as_front-t-items c = omega (arith, blank-few c.args.s c.requires)

pub loop-t-preserved : goal.loop-t-preserved
loop-t-preserved c =
    let s = c.args.s in
    let z : Sized s = sized s _ c.well_formed.0 in
    let n : s.n ≤ length s.tasks = omega (arith, blank-few s c.requires) in
    let l : length (take s.n s.tasks) ≡ s.n = length-take-le s.n s.tasks n in
    let i = c.loop-t.t-index in
    let k = body-next s z c.requires i (omega arith) in
    let h : (get_or (take s.n s.tasks) i no_task).height ≡ (get_or s.tasks i no_task).height =
    ap (λ (t : Task). t.height) (get_or-take s.n s.tasks i no_task (omega arith)) in
    (omega (arith, k.long), omega (arith, k.low))

pub returns : goal.returns
returns c =
    let s = c.args.s in
    let z : Sized s = sized s _ c.well_formed.0 in
    let n : s.n ≤ length s.tasks = omega (arith, blank-few s c.requires) in
    let l : length (take s.n s.tasks) ≡ s.n = length-take-le s.n s.tasks n in
    let e = ap length (body-whole s z c.requires c.loop-t.t-index (omega arith)) in
    omega (arith, image-length (view s))
