-- `plans::front_by` meets its contract: the mark stands in the front task.
use mathlib.Core.Path.{◌∙◌, ap}
use borrow.Author.Tests.{eqb-true}
use Rattle.model.proofs.Logic.{and_left}
use Rattle.model.specs.Marks.{stands_at}
use Rattle.plans.proofs.front_by.Goals as goal

pub without_screen-requires : goal.without_screen-requires
without_screen-requires c =
    let p = c.in-Some.p in
    c.requires p.below (c.in-Some.is ∙ ap (λ k. stands_at k p.below) (eqb-true p.behind 0 (and_left _ _ c.if-p-gone.true)))
