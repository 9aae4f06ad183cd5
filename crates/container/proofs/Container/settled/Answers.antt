-- The container of these panels, with the first steps.
use mathlib.Core.Path.{sym, ap, ◌∙◌}
use mathlib.Core.List.{List}
use Prim.Native.Nat.{ℕ}
use native.Mathlib.Omega.{arith}
use lib.ListN.{take, length-take}
use lib.Seq.{take_all}
use Rattle.panels.specs.Stored.{view_panels}
use Rattle.panels.proofs.PanelLaws.{view-held}
use Rattle.container.specs.Calls.{state}
use Rattle.container.specs.Stored.{hold}
use Rattle.container.proofs.KeptLaws.{fits-at}
use Rattle.container.proofs.Storing.{now-held, keep-held, held_steps, view-count, view-next}
use Rattle.container.proofs.Container.settled.Goals as goal

pub loop-q-init : goal.loop-q-init
loop-q-init c = now-held c.empty-out.result c.cleaned-out.result c.args.shown c.empty-out.ensures c.cleaned-out.ensures

pub keep-out-requires-clause-steps : goal.keep-out-requires-clause-steps
keep-out-requires-clause-steps c =
    let l = c.loop-q in
    let a = c.args in
    let n = view-count (take c.from-n.result a.self.kept) l.q-index (omega (arith, c.loop-q-test.true)) in
    omega (arith, n, held_steps l.out _ l.invariant, c.loop-q-test.true, length-take c.from-n.result a.self.kept, c.from-n.ensures, c.requires.steps)

pub keep-out-requires-clause-found : goal.keep-out-requires-clause-found
keep-out-requires-clause-found c = fits-at _ c.loop-q.q-index _ c.loop-q-test.true (rw c.from-n.ensures c.requires.kept)

pub loop-q-preserved : goal.loop-q-preserved
loop-q-preserved c =
    let l = c.loop-q in
    let a = c.args in
    let ks = take c.from-n.result a.self.kept in
    let n = view-count ks l.q-index (omega (arith, c.loop-q-test.true)) in
    let x = view_panels c.cleaned-out.result in
    c.keep-out.ensures
    ∙ keep-held l.out _ _ l.invariant (omega (arith, n, c.loop-q-test.true, length-take c.from-n.result a.self.kept, c.from-n.ensures, c.requires.steps))
    ∙ ap (λ (k : List (List ℕ)). hold (state x k)) (sym (view-next ks l.q-index _ c.loop-q-test.true))

pub returns : goal.returns
returns c =
    let x = ap view_panels c.cleaned-out.ensures ∙ view-held (view_panels c.args.shown) in
    c.loop-q.invariant ∙ rw (x, take_all _ _ c.loop-q-test.false, c.from-n.ensures)
