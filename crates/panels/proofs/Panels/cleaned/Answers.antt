-- What stands, pushed one by one.
use mathlib.Core.Path.{ap, ◌∙◌}
use Rattle.panels.specs.Stored.{hold_panels}
use Rattle.panels.proofs.PanelLaws.{none-held, push-room, push-next, until-low, all-viewed}
use Rattle.panels.proofs.Panels.cleaned.Goals as goal

pub loop-x-init : goal.loop-x-init
loop-x-init c = c.none-out.ensures ∙ none-held

pub push-out-requires : goal.push-out-requires
push-out-requires c =
    let l = c.loop-x in
    push-room _ l.x-index (until-low c.args.self c.requires c.from-n.ensures) c.loop-x-test.true l.out l.invariant

pub loop-x-preserved : goal.loop-x-preserved
loop-x-preserved c =
    let l = c.loop-x in
    c.push-out.ensures ∙ push-next _ l.x-index (until-low c.args.self c.requires c.from-n.ensures) c.loop-x-test.true l.out l.invariant

pub returns : goal.returns
returns c =
    let l = c.loop-x in
    l.invariant ∙ ap hold_panels (all-viewed c.args.self c.from-n.ensures c.loop-x-test.false)
