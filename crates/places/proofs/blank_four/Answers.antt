-- Invariant: the test so far and the screens from i on, of all four tasks, decide.
use mathlib.Core.Path.{◌≡◌, sym, ◌∙◌}
use native.Mathlib.Omega.{arith}
use lib.ListN.{length}
use borrow.Author.Rules.{rules}
use Rattle.places.proofs.Fours.{fours-begin, fours-step, fours-end}
use Rattle.places.proofs.blank_four.Goals as goal

pub loop-i-init : goal.loop-i-init
loop-i-init c = fours-begin _ _ _ _

pub loop-i-preserved : goal.loop-i-preserved
loop-i-preserved c =
    let o = c.loop-i in
    let a = c.args in
    let la : length a.a.screens ≡ 32 = search rules in
    let lb : length a.b.screens ≡ 32 = search rules in
    let lc : length a.c.screens ≡ 32 = search rules in
    let ld : length a.d.screens ≡ 32 = search rules in
    o.invariant ∙ fours-step a.a a.b a.c a.d o.i la lb lc ld (omega arith) o.zero

pub returns : goal.returns
returns c =
    let o = c.loop-i in
    let a = c.args in
    let la : length a.a.screens ≡ 32 = search rules in
    let lb : length a.b.screens ≡ 32 = search rules in
    let lc : length a.c.screens ≡ 32 = search rules in
    let ld : length a.d.screens ≡ 32 = search rules in
    sym (o.invariant ∙ fours-end a.a a.b a.c a.d o.i la lb lc ld (omega arith) o.zero)
