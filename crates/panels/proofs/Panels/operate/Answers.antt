-- One operation, by its kind.
use Rattle.panels.proofs.CarryLaws.{add-ninth, add-fits, remove-fits, replace-fits}
use Rattle.panels.proofs.Panels.operate.Goals as goal

pub returns-in-Add : goal.returns-in-Add
returns-in-Add c = rw c.in-Add.is (add-ninth c.args.self c.requires _ c.if-self-eq-MOST.true)

pub returns-in-Add-2 : goal.returns-in-Add-2
returns-in-Add-2 c = rw c.in-Add-2.is (add-fits c.args.self c.requires _ c.if-self-eq-MOST.false c.push.ensures)

pub returns-in-Remove : goal.returns-in-Remove
returns-in-Remove c = rw c.in-Remove.is (remove-fits c.args.self c.requires _ c.without_topmost.ensures)

pub returns-in-Replace : goal.returns-in-Replace
returns-in-Replace c = rw c.in-Replace.is (replace-fits c.args.self _ c.none.ensures c.push-in-Replace.ensures)
