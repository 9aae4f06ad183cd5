-- `effects::closed_up` meets its contract: the next k come down by one, and then b is stored.
use Prim.Native.Nat.{◌+◌}
use mathlib.Core.Path.{◌≡◌, ◌∙◌, ap, ap₂}
use mathlib.Core.List.{List}
use Prim.Native.Nat.{ℕ}
use native.Mathlib.Omega.{arith}
use borrow.Author.Rules.{rules}
use lib.ListN.{length, set}
use Rattle.session.specs.Stored.{with_screens}
use Rattle.effects.proofs.Rows.{closing_up, copied-nearer, close-end}
use Rattle.effects.proofs.closed_up.Goals as goal

pub returns : goal.returns
returns c =
    let a = c.args in
    let xs = a.t.screens in
    let l : length xs ≡ 32 = search rules in
    let to = c.from-to.result in
    let from = to + 1 in
    let m = c.from-to.ensures in
    let k = c.from.ensures in
    let e = c.copy_within.ensures.after
    ∙ copied-nearer to c.from.result from (from + c.from.result) xs (omega arith) (omega arith) ∙ ap₂ (λ m k. closing_up m k xs) m k in
    c.with_screen.ensures
    ∙ ap (λ (ys : List ℕ). with_screens a.t (set ys (a.m + a.k) a.b)) e
    ∙ ap (with_screens a.t) (close-end a.m a.k a.b xs (omega arith))
