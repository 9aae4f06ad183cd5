-- Each task's height is added to the sum of those before it.
use Prim.Native.Nat.{◌+◌, ◌≤◌, ◌<◌}
use mathlib.Core.Path.{◌≡◌, ap, ◌∙◌}
use native.Mathlib.Omega.{arith}
use lib.ListN.{length, take}
use lib.Seq.{get_or-take, length-take-le}
use Rattle.session.specs.declared.Task.{Task}
use Rattle.session.specs.Stored.{task_behind, no_task}
use Rattle.session.proofs.Known.{Sized, sized}
use Rattle.session.proofs.StoredLaws.{blank-few}
use Rattle.session.proofs.Standing.{Summed, summed-none, summed-more, summed-all}
use Rattle.session.proofs.Session.standing.Goals as goal

pub shared_ref_as_front-t-items : goal.shared_ref_as_front-t-items
shared_ref_as_front-t-items c = omega (arith, blank-few c.args.self c.requires)

pub loop-t-init : goal.loop-t-init
loop-t-init c = summed-none c.args.self (sized c.args.self _ c.well_formed.0) c.requires

more : (c : goal.After-from-total) → Summed c.args.self (c.loop-t.total + c.from-total.result) (c.loop-t.t-index + 1)
more c =
    let s = c.args.self in
    let z : Sized s = sized s _ c.well_formed.0 in
    let n : c.from.result ≤ length s.tasks = omega (arith, blank-few s c.requires) in
    let l : length (take c.from.result s.tasks) ≡ c.from.result = length-take-le c.from.result s.tasks n in
    let i : c.loop-t.t-index < c.from.result = omega arith in
    let h : c.from-total.result ≡ (task_behind s c.loop-t.t-index).height =
    c.from-total.ensures ∙ ap (λ (t : Task). t.height) (get_or-take c.from.result s.tasks c.loop-t.t-index no_task i) in
    rw h (summed-more s z c.requires c.loop-t.total c.loop-t.t-index c.loop-t.invariant (omega arith))

pub overflow_add-total : goal.overflow_add-total
overflow_add-total c = omega (arith, (more c).low, (more c).inside, blank-few c.args.self c.requires)

pub loop-t-preserved : goal.loop-t-preserved
loop-t-preserved c = more c

pub returns : goal.returns
returns c =
    let s = c.args.self in
    let z : Sized s = sized s _ c.well_formed.0 in
    let n : c.from.result ≤ length s.tasks = omega (arith, blank-few s c.requires) in
    let l : length (take c.from.result s.tasks) ≡ c.from.result = length-take-le c.from.result s.tasks n in
    summed-all s z c.requires c.loop-t.total c.loop-t.t-index c.loop-t.invariant (omega arith)
