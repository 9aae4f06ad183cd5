-- `effects::lifted` meets its contract: nothing where b does not stand, else the topmost b goes to the top.
use mathlib.Core.Path.{◌≡◌, sym, ◌∙◌}
use native.Mathlib.Omega.{arith}
use borrow.Author.Rules.{rules}
use lib.ListN.{length}
use Rattle.effects.proofs.Changes.{blank-low, above-inside, lift-nothing, lift-found}
use Rattle.effects.proofs.lifted.Goals as goal

pub returns-in-None : goal.returns-in-None
returns-in-None c =
    let a = c.args in
    let l : length a.t.screens ≡ 32 = search rules in
    sym (lift-nothing a.t l c.requires.0 a.b c.requires.1 c.in-None.is)

pub closed_up-requires : goal.closed_up-requires
closed_up-requires c =
    let a = c.args in
    let l : length a.t.screens ≡ 32 = search rules in
    let low = above-inside a.t l c.requires.0 a.b c.requires.1 c.in-Some.above c.in-Some.is in
    let few = blank-low a.t c.requires.0 in
    omega arith

pub returns-in-Some : goal.returns-in-Some
returns-in-Some c =
    let a = c.args in
    let l : length a.t.screens ≡ 32 = search rules in
    c.closed_up.ensures ∙ sym (lift-found a.t l c.requires.0 a.b c.requires.1 c.in-Some.above c.in-Some.is)

pub overflow_sub-t : goal.overflow_sub-t
overflow_sub-t c =
    let a = c.args in
    let l : length a.t.screens ≡ 32 = search rules in
    let low = above-inside a.t l c.requires.0 a.b c.requires.1 c.in-Some.above c.in-Some.is in
    omega arith

pub overflow_sub-t-in-Some : goal.overflow_sub-t-in-Some
overflow_sub-t-in-Some c =
    let a = c.args in
    let l : length a.t.screens ≡ 32 = search rules in
    let low = above-inside a.t l c.requires.0 a.b c.requires.1 c.in-Some.above c.in-Some.is in
    omega arith
