-- The steps and the panels now, and the kept ones.
use Prim.Native.Nat.{ℕ}
use mathlib.Core.Path.{ap, ◌∙◌}
use borrow.Author.Rules.{rules}
use borrow.Author.Tests.{tests}
use lib.ListN.{take}
use Rattle.std.proofs.lemmas.Iterator.{YieldsList-from_slice}
use Rattle.std.proofs.lemmas.Iterator.Search.{all_from_yields_List}
use Rattle.model.specs.Lists.{all}
use Rattle.container.specs.Stored.{fits}
use Rattle.container.proofs.KeptLaws.{good-bad, good-kept, list_all-fits}
use Rattle.container.proofs.Container.good.Goals as goal

pub returns-then-n-self : goal.returns-then-n-self
returns-then-n-self c = good-bad c.args.self.now (rw c.from-n.ensures at c.if-n-self.true)

pub returns : goal.returns
returns c =
    let a = c.args.self.now in
    let ks = take c.from-n.result a.kept in
    all_from_yields_List fits _ _ c.all.result c.all.ensures.ran (YieldsList-from_slice ks cc) (λ x b q k. search (rules, tests))
    ∙ list_all-fits ks
    ∙ ap (λ (n : ℕ). all fits (take n a.kept)) c.from-n.ensures
    ∙ good-kept a (rw c.from-n.ensures at c.if-n-self.false)
