-- Invariant: the test so far and the roots from i on decide.
use Prim.Native.Nat.{◌+◌}
use mathlib.Core.Path.{refl, sym, ◌∙◌, ap}
use mathlib.Core.Bool.{Bool, ◌&&◌, and_assoc, and-true}
use native.Mathlib.Omega.{arith}
use lib.ListN.{get_or, drop}
use Rattle.model.specs.Lists.{all}
use Rattle.model.proofs.Walks.{all-step, all_end}
use Rattle.places.specs.PlaceTests.{is_root}
use Rattle.soundness.proofs.all_roots.Goals as goal

pub loop-root-init : goal.loop-root-init
loop-root-init c = refl

pub loop-root-preserved : goal.loop-root-preserved
unfolding is_root
loop-root-preserved c =
    let roots = c.args.roots in
    let o = c.loop-root in
    o.invariant ∙ ap (λ (z : Bool). o.all && z) (all-step is_root roots o.root-index 0 (omega arith))
    ∙ sym (and_assoc o.all (is_root (get_or roots o.root-index 0)) (all is_root (drop (o.root-index + 1) roots)))

pub returns : goal.returns
returns c =
    let roots = c.args.roots in
    let o = c.loop-root in
    sym ((rw (all_end is_root roots o.root-index (omega arith)) at o.invariant) ∙ and-true o.all)
