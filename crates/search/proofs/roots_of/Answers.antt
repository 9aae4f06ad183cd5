-- `search::roots_of` meets its contract. The loop's invariant: the roots before i are stored.
use Prim.Native.Nat.{ℕ}
use mathlib.Core.Path.{◌≡◌, refl, sym, ◌∙◌}
use native.Mathlib.Omega.{arith}
use borrow.Author.Rules.{rules}
use lib.ListN.{length, length-map, length-replicate, length-set}
use lib.Seq.{take_all}
use Rattle.session.proofs.Known.{long}
use Rattle.session.specs.Stored.{root, roots_of}
use Rattle.search.proofs.Roots.{next-root}
use Rattle.search.proofs.roots_of.Goals as goal

pub loop-i-init : goal.loop-i-init
loop-i-init c = (length-replicate {A = ℕ} 16 0, refl)

pub bounds-s-i : goal.bounds-s-i
bounds-s-i c = search (rules, long)

pub loop-i-preserved : goal.loop-i-preserved
loop-i-preserved c =
    let o = c.loop-i in
    let ts = c.args.s.tasks in
    let l : length ts ≡ 16 = search (rules, long) in
    (length-set o.roots o.i _ ∙ o.invariant.0, next-root ts o.roots o.i (omega arith) (omega arith) o.invariant.1)

pub returns : goal.returns
returns c =
    let o = c.loop-i in
    let ts = c.args.s.tasks in
    let l : length ts ≡ 16 = search (rules, long) in
    sym (take_all o.i o.roots (omega arith)) ∙ o.invariant.1 ∙ take_all o.i (roots_of ts) (omega (arith, length-map ts root))
