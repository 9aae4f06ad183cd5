-- All panels so far, and all without the topmost p.
use mathlib.Core.Path.{ap, ◌∙◌}
use borrow.Author.Tests.{ne_eqb}
use mathlib.Core.List.{List}
use Prim.Native.Nat.{ℕ}
use Rattle.panels.specs.Operations.{remove_topmost}
use Rattle.panels.specs.Stored.{hold_panels}
use Rattle.panels.proofs.PanelLaws.{none-held, none-removed, push-room, push-next, push-same, other-room, push-other, until-low, all-viewed}
use Rattle.panels.proofs.Panels.without_topmost.Goals as goal
use Rattle.panels.proofs.Panels.without_topmost.Goals.{then-x-p, else-x-p}

pub loop-x-init : goal.loop-x-init
loop-x-init c = (c.none-all.ensures ∙ none-held, c.none-out.ensures ∙ none-removed _)

pub push-out-requires : goal.push-out-requires
push-out-requires c =
    let l = c.loop-x in
    let a = c.args in
    other-room _ l.x-index (until-low a.self c.requires c.from-n.ensures) c.loop-x-test.true a.p l.out l.invariant.1

pub push-all-requires : goal.push-all-requires
push-all-requires c =
    let l = c.loop-x in
    push-room _ l.x-index (until-low c.args.self c.requires c.from-n.ensures) c.loop-x-test.true l.all l.invariant.0

pub loop-x-preserved : goal.loop-x-preserved
loop-x-preserved c =
    let l = c.loop-x in
    let a = c.args in
    let t = c.loop-x-test.true in
    let low = until-low a.self c.requires c.from-n.ensures in (
      c.push-all.ensures ∙ push-next _ l.x-index low t l.all l.invariant.0,
      elim c.if-x-p.branch [
        | then-x-p w ↦ w.out-is ∙ push-same _ l.x-index low t a.p l.all l.invariant.0 w.if-x-p.true
        | else-x-p w ↦ w.out-is ∙ w.push-out.ensures ∙ push-other _ l.x-index low t a.p l.out l.invariant.1 (ne_eqb _ _ w.if-x-p.false)
      ],
    )

pub returns : goal.returns
returns c =
    let a = c.args in
    let l = c.loop-x in
    l.invariant.1
    ∙ ap (λ (xs : List ℕ). hold_panels (remove_topmost a.p xs)) (all-viewed a.self c.from-n.ensures c.loop-x-test.false)
