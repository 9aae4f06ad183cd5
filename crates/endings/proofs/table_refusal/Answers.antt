-- The part that is lent is the table.
use mathlib.Core.Path.{◌∙◌, ap}
use Rattle.model.specs.Table.{table_refusal}
use Rattle.endings.proofs.Tables.{table-part}
use Rattle.endings.proofs.table_refusal.Goals as goal

pub returns-in-Ok : goal.returns-in-Ok
returns-in-Ok c =
    let end = c.table_end-end in
    c.in-Ok.ensures ∙ ap table_refusal (table-part c.args.input.now end.result end.ensures.length)

pub returns-in-Err : goal.returns-in-Err
returns-in-Err c =
    let end = c.table_end-end in
    c.number.ensures ∙ c.in-Err.ensures ∙ ap table_refusal (table-part c.args.input.now end.result end.ensures.length)
