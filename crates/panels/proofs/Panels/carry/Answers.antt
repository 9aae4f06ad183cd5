-- What is left of the operations, on the panels so far, makes what all of them make.
use mathlib.Core.Path.{sym, ap, ◌∙◌}
use Rattle.std.proofs.lemmas.Result.{err_from_is_err_and}
use Rattle.panels.specs.Operations.{operations_in}
use Rattle.panels.specs.Stored.{view_panels, carried_or37}
use Rattle.panels.proofs.PanelLaws.{view-held, view-low, held-clean}
use Rattle.panels.proofs.CarryLaws.{step-refused, step-left, step-end}
use Rattle.panels.proofs.Panels.carry.Goals as goal

pub loop-left-init : goal.loop-left-init
loop-left-init c =
    let a = c.args in
    let e = c.cleaned-out.ensures in (
      held-clean c.cleaned-out.result (view_panels a.self) e (view-low a.self c.requires),
      ap (carried_or37 (operations_in a.operations.now)) (sym (ap view_panels e ∙ view-held (view_panels a.self))),
    )

pub returns-in_err-out : goal.returns-in_err-out
returns-in_err-out c =
    let l = c.loop-left in
    let p = err_from_is_err_and c.from_residual.result c.from_residual.ensures.1 in
    rw (p.1, p.2)
    (sym (l.invariant.1 ∙ step-refused l.left.now l.out c.in-len2-up.len_at_least c.of.ensures c.operate.ensures _ c.in_err-out.was))

pub loop-left-preserved : goal.loop-left-preserved
loop-left-preserved c =
    let l = c.loop-left in
    let h = step-left l.left.now l.out c.in-len2-up.len_at_least c.of.ensures c.operate.ensures c.in_ok-out.out c.in_ok-out.was in
    (h.0, l.invariant.1 ∙ h.1)

pub returns : goal.returns
returns c =
    let l = c.loop-left in
    sym (l.invariant.1 ∙ step-end l.left.now l.out l.invariant.0 c.in_default.len_below)
