-- The checks in their sequence, and the step carried out.
use mathlib.Core.Path.{sym, ap, ◌∙◌}
use native.Mathlib.Omega.{arith}
use Rattle.std.proofs.lemmas.Result.{err_from_is_err_and}
use Rattle.panels.specs.Operations.{good_operations}
use Rattle.container.specs.Stored.{good_container}
use Rattle.container.specs.declared.Container.{Container}
use Rattle.container.proofs.Sizes.{sized}
use Rattle.container.proofs.KeptLaws.{is-good, fits-fewer}
use Rattle.container.proofs.CallLaws.{reply}
use Rattle.container.proofs.StepLaws.{both_true, step-36, step-37, known, good, step-38, shown-low, has-place, unrecorded-0, recorded-0}
use Rattle.container.proofs.Promise.{keeps-promise}
use Rattle.container.proofs.Container.step.Goals as goal

pub returns-then-good_operations-good : goal.returns-then-good_operations-good
returns-then-good_operations-good c =
    let a = c.args in
    let bad = rw (c.good_operations.ensures, c.good.ensures) at c.if-good_operations-good.true in
    record { gives = step-36 a.recorded a.operations.now a.self bad; promise = keeps-promise }

pub carry-requires : goal.carry-requires
carry-requires c =
    let a = c.args in
    let passed = rw (c.good_operations.ensures, c.good.ensures) at c.if-good_operations-good.false in
    (is-good a.self (both_true (good_operations a.operations.now) (good_container a.self) passed).1).low

pub returns-in_err-shown : goal.returns-in_err-shown
returns-in_err-shown c =
    let a = c.args in
    let passed = rw (c.good_operations.ensures, c.good.ensures) at c.if-good_operations-good.false in
    let p = err_from_is_err_and c.from_residual.result c.from_residual.ensures.1 in
    record {
      gives = rw (p.1, p.2) (step-37 a.recorded a.operations.now a.self passed _ (sym c.in_err-shown.was ∙ c.carry.ensures));
      promise = keeps-promise;
    }

pub returns-then-recorded-steps : goal.returns-then-recorded-steps
returns-then-recorded-steps c =
    let a = c.args in
    let k =
    known a.recorded a.operations.now a.self c.good_operations.ensures c.good.ensures c.if-good_operations-good.false c.carry.ensures c.in_ok-shown.was in
    record { gives = step-38 k c.if-recorded-steps.true; promise = keeps-promise }

pub settled-out-requires : goal.settled-out-requires
settled-out-requires c =
    let a = c.args in
    let k =
    known a.recorded a.operations.now a.self c.good_operations.ensures c.good.ensures c.if-good_operations-good.false c.carry.ensures c.in_ok-shown.was in
    let g = good k in
    record { shown = shown-low k; steps = g.few; kept = fits-fewer a.self.kept a.self.steps a.self.steps (omega arith) g.each }

pub returns-then-recorded-eq0 : goal.returns-then-recorded-eq0
returns-then-recorded-eq0 c =
    let a = c.args in
    let k =
    known a.recorded a.operations.now a.self c.good_operations.ensures c.good.ensures c.if-good_operations-good.false c.carry.ensures c.in_ok-shown.was in
    record { gives = unrecorded-0 k c.if-recorded-steps.false c.settled-out.ensures c.if-recorded-eq0.true; promise = keeps-promise }

pub keep-requires : goal.keep-requires
keep-requires c =
    let a = c.args in
    let k =
    known a.recorded a.operations.now a.self c.good_operations.ensures c.good.ensures c.if-good_operations-good.false c.carry.ensures c.in_ok-shown.was in
    let z = sized a.self _ c.well_formed.0 in
    record { steps = has-place k c.if-recorded-steps.false c.settled-out.ensures c.if-recorded-eq0.false z; found = (good k).low }

pub returns : goal.returns
returns c =
    let a = c.args in
    let k =
    known a.recorded a.operations.now a.self c.good_operations.ensures c.good.ensures c.if-good_operations-good.false c.carry.ensures c.in_ok-shown.was in
    let z = sized a.self _ c.well_formed.0 in
    record {
      gives =
          ap (λ (x : Container). reply x 0) c.keep.ensures
          ∙ recorded-0 k c.if-recorded-steps.false c.settled-out.ensures c.if-recorded-eq0.false z;
      promise = keeps-promise;
    }
