-- `Task::with_screen` meets its contract. The loop's invariant: the first i places are stored.
use Prim.Native.Nat.{◌<◌}
use mathlib.Core.Path.{◌≡◌, refl, ◌∙◌, ap}
use native.Mathlib.Omega.{arith}
use borrow.Author.Rules.{rules}
use lib.ListN.{length, get_or, set, length-set}
use Rattle.session.specs.declared.Task.{Task}
use Rattle.session.specs.Stored.{with_screens}
use Rattle.session.proofs.Storing.{storing-ahead, storing-step, storing-all, chosen-set}
use Rattle.session.proofs.Task.with_screen.Goals as goal

pub loop-i-init : goal.loop-i-init
loop-i-init c = refl

pub loop-i-preserved : goal.loop-i-preserved
loop-i-preserved c =
    let here = c.loop-i in
    let a = c.args in
    let xs = a.self.screens in
    let ys = set xs a.at a.b in
    let l : length xs ≡ 32 = search rules in
    let z = length-set xs a.at a.b in
    let n : here.i < length xs = omega (arith, c.loop-i-test.true) in
    let k = c.from-k.ensures in
    let read = ap (λ (o : Task). get_or o.screens here.i 0) here.invariant ∙ storing-ahead 0 xs ys here.i z n in
    rw k
    (ap (λ (o : Task). with_screens o (set o.screens here.i c.pick.result)) here.invariant
    ∙ ap (with_screens a.self) (storing-step 0 xs ys here.i z n (chosen-set xs a.at a.b here.i n read (rw k at c.pick.ensures))))

pub returns : goal.returns
returns c =
    let here = c.loop-i in
    let a = c.args in
    let xs = a.self.screens in
    let l : length xs ≡ 32 = search rules in
    let z = length-set xs a.at a.b in
    here.invariant ∙ ap (with_screens a.self) (storing-all xs (set xs a.at a.b) here.i (omega (arith, c.loop-i-test.false)) (omega (arith, c.loop-i-test.false)))
