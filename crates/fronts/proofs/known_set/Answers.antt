-- Refused by a shared check, by 3 or 35, or the set.
use mathlib.Core.Path.{◌≡◌, sym, ◌∙◌, ap}
use Rattle.std.specs.Prelude.{Ok}
use Rattle.std.proofs.lemmas.Result.{err_from_is_err_and}
use Rattle.model.specs.Refusals.{refusal_number}
use Rattle.model.proofs.RefusalLaws.{number-some}
use Rattle.starts.proofs.Seeking.{unless-refused, unless-passed}
use Rattle.checks.proofs.SharedLaws.{shared-ready}
use Rattle.fronts.specs.Fronts.{fronts_refusal}
use Rattle.fronts.proofs.FrontLaws.{refusal-shared, refusal-own}
use Rattle.fronts.proofs.known_set.Goals as goal

pub of-requires : goal.of-requires
of-requires c = let a = c.args in (shared-ready a.table.now a.s (sym c.in_ok-check.ensures)).good

pub passed-requires : goal.passed-requires
passed-requires c = let a = c.args in shared-ready a.table.now a.s (sym c.in_ok-check.ensures)

pub returns : goal.returns
returns c =
    let a = c.args in
    let ready = shared-ready a.table.now a.s (sym c.in_ok-check.ensures) in
    let own : fronts_refusal a.table.now a.s a.b a.mask a.value ≡ 0 = refusal-own a.table.now a.s a.b a.mask a.value ready ∙ sym (rw c.of.ensures at c.in_ok-check_known.ensures) in
    ap Ok (rw (c.passed.ensures.table, c.passed.ensures.session) at c.set_of.ensures) ∙ unless-passed _ _ own

pub returns-in_err-check : goal.returns-in_err-check
returns-in_err-check c =
    let a = c.args in
    let r = c.in_err-check.field-0.0 in
    let p = err_from_is_err_and c.from_residual.result c.from_residual.ensures.1 in
    let e : fronts_refusal a.table.now a.s a.b a.mask a.value ≡ refusal_number r =
    refusal-shared a.table.now a.s a.b a.mask a.value (refusal_number r) (sym (c.in_err-check.ensures {u = tt})) (number-some r) in
    rw (p.1, p.2, e) (unless-refused (refusal_number r) _ (number-some r))

pub returns-in_err-check_known : goal.returns-in_err-check_known
returns-in_err-check_known c =
    let a = c.args in
    let r = c.in_err-check_known.field-0.0 in
    let p = err_from_is_err_and c.from_residual-in_err-check_known.result c.from_residual-in_err-check_known.ensures.1 in
    let e : fronts_refusal a.table.now a.s a.b a.mask a.value ≡ refusal_number r =
    refusal-own a.table.now a.s a.b a.mask a.value (shared-ready a.table.now a.s (sym c.in_ok-check.ensures))
    ∙ sym (rw c.of.ensures at (c.in_err-check_known.ensures {u = tt})) in
    rw (p.1, p.2, e) (unless-refused (refusal_number r) _ (number-some r))
