-- The checks, and the last step's panels brought back.
use Prim.Native.Nat.{◌-◌}
use mathlib.Core.Path.{◌≡◌}
use mathlib.Core.Bool.{true, false}
use native.Mathlib.Omega.{arith}
use borrow.Author.Rules.{rules}
use borrow.Author.Tests.{not-true, not-false}
use Rattle.container.specs.Stored.{good_container}
use Rattle.container.proofs.Sizes.{sized}
use Rattle.container.proofs.KeptLaws.{is-good, kept_low, fits-fewer}
use Rattle.container.proofs.CallLaws.{back-36, back-38, back-0}
use Rattle.container.proofs.Promise.{keeps-promise, back-restores}
use Rattle.container.proofs.Container.back.Goals as goal

pub returns-then-not-good : goal.returns-then-not-good
returns-then-not-good c =
    let bad : good_container c.args.self ≡ false = search (rules, not-true) in
    record { gives = back-36 c.args.self bad; undoes = back-restores; promise = keeps-promise }

pub returns-then-steps-eq0 : goal.returns-then-steps-eq0
returns-then-steps-eq0 c =
    let a = c.args.self in
    let good : good_container a ≡ true = search (rules, not-false) in
    record { gives = back-38 a good (sized a _ c.well_formed.0) c.if-steps-eq0.true; undoes = back-restores; promise = keeps-promise }

pub bounds-self-from : goal.bounds-self-from
bounds-self-from c =
    let good : good_container c.args.self ≡ true = search (rules, not-false) in
    omega (arith, (is-good _ good).few, c.if-steps-eq0.false, c.from.ensures)

pub settled-requires : goal.settled-requires
settled-requires c =
    let a = c.args.self in
    let good : good_container a ≡ true = search (rules, not-false) in
    let g = is-good a good in
    let some = c.if-steps-eq0.false in
    let z = sized a _ c.well_formed.0 in
    record {
      shown = rw c.from.ensures (kept_low a z g (a.steps - 1) _ (omega (arith, some)));
      steps = omega (arith, g.few);
      kept = fits-fewer a.kept (a.steps - 1) a.steps (omega arith) g.each;
    }

pub returns : goal.returns
returns c =
    let a = c.args.self in
    let good : good_container a ≡ true = search (rules, not-false) in
    record {
      gives = back-0 a good (sized a _ c.well_formed.0) c.settled.result _ c.if-steps-eq0.false (rw c.from.ensures at c.settled.ensures);
      undoes = back-restores;
      promise = keeps-promise;
    }
