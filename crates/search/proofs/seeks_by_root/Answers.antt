-- `search::seeks_by_root` meets its contract, by whether the edition is 6.
use Rattle.search.proofs.Seeking.{seeks-other, seeks-six}
use Rattle.search.proofs.seeks_by_root.Goals as goal

pub returns-then-edition-ne6 : goal.returns-then-edition-ne6
returns-then-edition-ne6 c = let a = c.args in seeks-other a.table.now a.edition a.b c.if-edition-ne6.true

pub returns : goal.returns
returns c =
    let a = c.args in
    seeks-six a.table.now a.edition a.b c.if-edition-ne6.false c.is_single_instance.ensures c.is_single_task.ensures c.affinity.ensures
