-- The table's refusal, or else the seed's.
use mathlib.Core.Path.{◌≡◌, ◌∙◌}
use borrow.Author.Rules.{rules}
use Rattle.std.proofs.lemmas.Result.{err_from_is_err_and}
use Rattle.model.specs.Refusals.{refusal_number}
use Rattle.model.proofs.RefusalLaws.{number-some}
use Rattle.model.specs.Table.{table_refusal}
use Rattle.loads.proofs.LoadLaws.{table-refused, table_taken, seed-refused, seed-taken}
use Rattle.loads.proofs.check.Goals as goal

pub returns-in_err-check : goal.returns-in_err-check
returns-in_err-check c =
    let a = c.args in
    let r = c.in_err-check.field-0.0 in
    let p = err_from_is_err_and c.from_residual.result c.from_residual.ensures.1 in
    rw (p.1, p.2) (table-refused a.table.now a.seed (refusal_number r) (c.in_err-check.ensures {u = tt}) (number-some r))

pub returns-then-seed-eq0 : goal.returns-then-seed-eq0
returns-then-seed-eq0 c =
    let good : table_refusal c.args.table.now ≡ 0 = search rules in
    seed-refused c.args.seed c.if-seed-eq0.true ∙ table_taken c.args.table.now c.args.seed good

pub returns : goal.returns
returns c =
    let good : table_refusal c.args.table.now ≡ 0 = search rules in
    seed-taken c.args.seed c.if-seed-eq0.false ∙ table_taken c.args.table.now c.args.seed good
