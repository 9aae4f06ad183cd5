-- The records begin behind the table.
use Rattle.endings.proofs.Tables.{ignored-part}
use Rattle.endings.proofs.ignored.Goals as goal

pub returns : goal.returns
returns c =
    let end = c.table_end-end in
    rw (ignored-part c.args.input.now end.result end.ensures.length) at c.ignored.ensures
