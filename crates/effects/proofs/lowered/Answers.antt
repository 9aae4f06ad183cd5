-- `effects::lowered` meets its contract. The loop's invariant: the first i places are stored.
use Prim.Native.Nat.{ℕ, ◌-◌, ◌≤◌, ◌<◌}
use mathlib.Core.Path.{◌≡◌, ◌∙◌, ap}
use mathlib.Core.List.{List}
use native.Mathlib.Omega.{arith}
use borrow.Author.Rules.{rules}
use lib.ListN.{length, get_or, set, take, replicate, length-append, length-replicate}
use lib.Seq.{length-take-le}
use Rattle.session.specs.declared.Task.{Task}
use Rattle.session.specs.Stored.{with_screens, with_height}
use Rattle.session.proofs.Storing.{storing-ahead, storing-step, chosen-low}
use Rattle.effects.proofs.Changes.{blank-low}
use Rattle.effects.proofs.lowered.Invariants.{below}
use Rattle.effects.proofs.lowered.Goals as goal

below-length : (xs : List ℕ) (h : ℕ) → length xs ≡ 32 → h ≤ 32 → length (below h xs) ≡ length xs
below-length xs h l few =
    omega (arith, length-append (take h xs) (replicate (32 - h) 0), length-take-le h xs (omega arith), length-replicate {A = ℕ} (32 - h) 0)

pub loop-i-preserved : goal.loop-i-preserved
loop-i-preserved c =
    let here = c.loop-i in
    let a = c.args in
    let xs = a.t.screens in
    let ys = below a.h xs in
    let l : length xs ≡ 32 = search rules in
    let b = blank-low a.t c.requires.0 in
    let few : a.h ≤ 32 = omega (arith, c.requires.1) in
    let z = below-length xs a.h l few in
    let n : here.i < length xs = omega (arith, c.loop-i-test.true) in
    let k = c.from-k.ensures in
    let read = ap (λ (o : Task). get_or o.screens here.i 0) here.invariant ∙ storing-ahead 0 xs ys here.i z n in
    rw k
    (ap (λ (o : Task). with_screens o (set o.screens here.i c.pick.result)) here.invariant
    ∙ ap (with_screens (with_height a.t a.h))
    (storing-step 0 xs ys here.i z n (chosen-low xs a.h (32 - a.h) here.i (omega arith) read (rw k at c.pick.ensures))))
