-- `effects::cleared` meets its contract: nothing where none is said, else what stands above the screen goes.
use mathlib.Core.Path.{◌≡◌, sym, ◌∙◌}
use native.Mathlib.Omega.{arith}
use borrow.Author.Rules.{rules}
use lib.ListN.{length}
use Rattle.effects.proofs.Changes.{clear_none, clear-below}
use Rattle.effects.proofs.cleared.Goals as goal

pub returns-in-None : goal.returns-in-None
returns-in-None c =
    let t = c.args.t in
    let l : length t.screens ≡ 32 = search rules in
    sym (clear_none t l c.requires.0 c.in-None.is)

pub returns-in-Some : goal.returns-in-Some
returns-in-Some c =
    let t = c.args.t in
    let l : length t.screens ≡ 32 = search rules in
    let low = rw c.in-Some.is at c.requires.1 in
    c.lowered.ensures ∙ sym (clear-below t l c.requires.0 c.in-Some.above c.in-Some.is low)
