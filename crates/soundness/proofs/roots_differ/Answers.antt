-- A root that may be that of several tasks is passed over.
use mathlib.Core.Bool.{not}
use Prim.Native.Nat.{ℕ, ◌+◌, ◌-◌, ◌<◌}
use mathlib.Core.Path.{◌≡◌, sym, ◌∙◌, ap}
use native.Mathlib.Omega.{arith}
use lib.Dec.{ltb}
use mathlib.Core.List.{List}
use lib.ListN.{length, get_or, take, drop, length-drop}
use lib.Seq.{take_all}
use borrow.Author.Tests.{ltb-true}
use Rattle.model.specs.Table.{size_of}
use Rattle.model.proofs.Tables.{good-shaped}
use Rattle.model.proofs.Walks.{said-yes, said-no, all-at, pairwise-step, pairwise-end}
use Rattle.soundness.specs.Tests.{roots_known, may_be_roots}
use Rattle.soundness.proofs.Fits.{differ-once, differ-often}
use Rattle.soundness.proofs.roots_differ.Goals as goal
use Rattle.soundness.proofs.roots_differ.Goals.{then-roots_once+else-not-no_root, else-roots_once}

pub roots_once-requires : goal.roots_once-requires
unfolding roots_known
roots_once-requires c =
    let tb = c.args.table.now in
    let i = c.loop-i.i in
    let g = good-shaped tb c.requires.0 in
    let k : get_or c.args.roots.now i 0 < size_of tb = ltb-true _ _
    (all-at (λ x. ltb x (size_of tb)) c.args.roots.now i 0 (omega arith) c.requires.1) in
    omega arith

-- what stands behind a place
behind : (xs : List ℕ) (i : ℕ) → take (length xs - (i + 1)) (drop (i + 1) xs) ≡ drop (i + 1) xs
behind xs i = take_all (length xs - (i + 1)) (drop (i + 1) xs) (omega (arith, length-drop (i + 1) xs))

pub returns-then-not-no_root : goal.returns-then-not-no_root
returns-then-not-no_root c =
    let tb = c.args.table.now in
    let xs = c.args.roots.now in
    let i = c.loop-i.i in
    let once = sym c.roots_once.ensures ∙ c.if-roots_once.true in
    let none = rw (behind xs i) at c.no_root.ensures in
    let e = differ-once tb (get_or xs i 0) (drop (i + 1) xs) once ∙ said-no none (ap not c.if-not-no_root.true) in
    sym (c.loop-i.invariant ∙ pairwise-step (may_be_roots tb) xs i 0 (omega arith) ∙ rw e)

pub loop-i-preserved : goal.loop-i-preserved
loop-i-preserved c =
    let tb = c.args.table.now in
    let xs = c.args.roots.now in
    let i = c.loop-i.i in
    let step = c.loop-i.invariant ∙ pairwise-step (may_be_roots tb) xs i 0 (omega arith) in
    elim c.if-roots_once.branch [
      | then-roots_once+else-not-no_root w ↦
          let once = sym c.roots_once.ensures ∙ w.if-roots_once.true in
          let none = rw (behind xs i) at w.no_root.ensures in
          let e = differ-once tb (get_or xs i 0) (drop (i + 1) xs) once ∙ said-yes none (ap not w.if-not-no_root.false) in
          step ∙ rw e
      | else-roots_once w ↦
          let e = differ-often tb (get_or xs i 0) (drop (i + 1) xs) (sym c.roots_once.ensures ∙ w.if-roots_once.false) in
          step ∙ rw e
    ]

pub returns : goal.returns
returns c = sym (c.loop-i.invariant ∙ pairwise-end (may_be_roots c.args.table.now) c.args.roots.now c.loop-i.i (omega arith))
