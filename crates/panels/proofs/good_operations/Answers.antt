-- The count, and the kinds one by one.
use mathlib.Core.Path.{refl, ◌∙◌}
use mathlib.Core.Bool.{true, false}
use Rattle.panels.proofs.CheckLaws.{count-test, count-bad, kind-bad, kind-next, kind-end}
use Rattle.panels.proofs.good_operations.Goals as goal

pub returns-then-length : goal.returns-then-length
returns-then-length c = count-bad c.args.operations.now (count-test _ true c.if-length.true)

pub loop-left-init : goal.loop-left-init
loop-left-init c = (count-test _ false c.if-length.false, refl)

pub returns-then-kind : goal.returns-then-kind
returns-then-kind c =
    let l = c.loop-left in
    kind-bad l.left.now c.args.operations.now l.invariant.0 l.invariant.1 c.in-len2-up.len_at_least c.if-kind.true

pub loop-left-preserved : goal.loop-left-preserved
loop-left-preserved c =
    let l = c.loop-left in
    (l.invariant.0, l.invariant.1 ∙ kind-next l.left.now c.in-len2-up.len_at_least c.if-kind.false)

pub returns : goal.returns
returns c =
    let l = c.loop-left in
    kind-end l.left.now c.args.operations.now l.invariant.0 l.invariant.1 c.in_default.len_below
