-- `plans::closing_plan` meets its contract, field by field.
use lib.Dec.{leb}
use Rattle.plans.proofs.Fields.{plan-by}
use Rattle.plans.proofs.closing_plan.Goals as goal

pub returns : goal.returns
returns c =
    let a = c.args in
    plan-by a.mark (leb a.t.height 1) (leb a.moved.second 1) a.t a.moved.shift a.moved.n a.moved.main a.moved.edition
    a.moved.closed c.requires.1
    c.gone_by-gone.ensures c.front_by.ensures c.pops_by.ensures c.count_by-left.ensures
    c.main_by.ensures c.closed_with.ensures c.edition_by.ensures
