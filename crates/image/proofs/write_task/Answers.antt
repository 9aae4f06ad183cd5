-- `image::write_task` meets its contract: the root, the height and the screens, one behind the other.
use mathlib.Core.Path.{◌≡◌, refl, ◌∙◌}
use mathlib.Core.List.{[], ◌∷◌, append-nil}
use native.Mathlib.Omega.{arith}
use lib.ListN.{length, length-set}
use borrow.Author.Rules.{rules}
use Rattle.model.specs.Image.{body_of}
use Rattle.model.proofs.WrittenLaws.{Wrote, wrote, wrote-cons}
use Rattle.session.specs.Stored.{view_task}
use Rattle.session.proofs.TaskLaws.{view-height}
use Rattle.image.proofs.write_task.Goals as goal

pub bounds-out-at-2 : goal.bounds-out-at-2
bounds-out-at-2 c = simp length-set (omega arith)

pub shape_of-out : goal.shape_of-out
shape_of-out c = c.write_screens.auto.out ∙ simp length-set

pub returns : goal.returns
unfolding view_task
returns c =
    let a = c.args in
    let d = a.out.now in
    let k = c.write_screens in
    let l : length a.t.screens ≡ 32 = search rules in
    let h = view-height a.t (omega arith) in
    let fits = length-set d a.at a.t.root in
    let w : Wrote d a.at (a.t.root ∷ a.t.height ∷ (view_task a.t).screens) k.new.out k.result =
    wrote-cons refl (omega arith) (wrote-cons (omega arith) (omega arith) (wrote 32 (k.ensures.place, (k.ensures.bytes, k.ensures.bound)))) in
    let v : Wrote d a.at (body_of (view_task a.t ∷ [])) k.new.out k.result = rw (h, append-nil (view_task a.t).screens) w in
    record { place = v.place; bytes = v.text; bound = omega arith }
