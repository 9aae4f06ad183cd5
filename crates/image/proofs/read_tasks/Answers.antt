-- A task more is read, or none of them can be.
use Prim.Native.Nat.{◌+◌, ◌-◌}
use mathlib.Core.Bool.{true, not}
use mathlib.Core.Path.{◌≡◌, refl, ap}
use native.Mathlib.Omega.{arith}
use lib.ListN.{length, get_or}
use borrow.Author.Tests.{not-true, not-false}
use Rattle.image.proofs.ReadTasks.{height_fits, height-fits, begun-none, begun-cut, begun-unfit, begun_more, begun-over, begun-end}
use Rattle.image.proofs.read_tasks.Goals as goal

pub loop-i-init : goal.loop-i-init
loop-i-init c = (omega arith, rw c.fresh-s.ensures (begun-none c.args.body.now c.args.n))

pub returns-then-body-at-lt2 : goal.returns-then-body-at-lt2
returns-then-body-at-lt2 c =
    let a = c.args in
    begun-cut c.loop-i.invariant.1 c.loop-i-test.true c.if-body-at-lt2.true a.main a.edition a.no_history

pub returns-then-not-fits : goal.returns-then-not-fits
returns-then-not-fits c =
    let a = c.args in
    begun-unfit c.loop-i.invariant.1 c.loop-i-test.true (omega arith) _ refl (not-true _ (ap not c.if-not-fits.true)) a.main a.edition a.no_history

pub loop-i-preserved : goal.loop-i-preserved
loop-i-preserved c =
    let body = c.args.body.now in
    let at = c.loop-i.at in
    let h = get_or body (at + 1) 0 in
    let f : height_fits h (length body - at - 2) ≡ true = not-false _ (ap not c.if-not-fits.false) in
    let k = height-fits h (length body - at - 2) f in
    (omega arith, begun_more c.loop-i.invariant.1 c.loop-i-test.true (omega arith) h refl c.requires f c.read_task.result c.read_task.ensures)

pub returns-then-at-body : goal.returns-then-at-body
returns-then-at-body c =
    let a = c.args in
    begun-over c.loop-i.invariant.1 c.loop-i-test.false (omega arith) a.main a.edition a.no_history

pub returns : goal.returns
returns c =
    let a = c.args in
    begun-end c.loop-i.invariant.1 c.loop-i-test.false c.if-at-body.false (omega arith) a.main a.edition a.no_history
