-- `navigator::check` meets its contract: the table's refusal, then 20.
use mathlib.Core.Path.{sym, ◌∙◌}
use Rattle.std.proofs.lemmas.Result.{err_from_is_err_and}
use Rattle.model.specs.Refusals.{refusal_number}
use Rattle.model.specs.Table.{table_refusal}
use Rattle.model.proofs.RefusalLaws.{number-some}
use Rattle.starts.proofs.Seeking.{unless-number, unless-made}
use Rattle.checks.proofs.SharedLaws.{shared-bad-table, shared-unsound, shared-passed}
use Rattle.navigator.proofs.check.Goals as goal

pub returns-in_err-good : goal.returns-in_err-good
returns-in_err-good c =
    let a = c.args in
    let r = c.in_err-good.field-0.0 in
    let p = err_from_is_err_and c.from_residual.result c.from_residual.ensures.1 in
    let n = unless-number (table_refusal a.table.now) a.table.now (c.in_err-good.ensures {u = tt}) in
    rw (p.1, p.2) (sym (shared-bad-table a.table.now a.s (refusal_number r) (sym n) (number-some r)))

pub sound-requires : goal.sound-requires
sound-requires c = rw c.bytes.ensures.bytes c.bytes.ensures.good

pub returns-then-sound : goal.returns-then-sound
returns-then-sound c =
    let a = c.args in
    let good = unless-made (table_refusal a.table.now) c.in_ok-good.ensures in
    sym (shared-passed a.table.now a.s good.0 (sym (rw (c.bytes.ensures.bytes, good.1) at c.sound.ensures) ∙ c.if-sound.true))

pub returns : goal.returns
returns c =
    let a = c.args in
    let good = unless-made (table_refusal a.table.now) c.in_ok-good.ensures in
    sym (shared-unsound a.table.now a.s good.0 (sym (rw (c.bytes.ensures.bytes, good.1) at c.sound.ensures) ∙ c.if-sound.false))
