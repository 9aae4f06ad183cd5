-- A byte that names no mode is above the last of them.
use Rattle.std.specs.Prelude.{leb}
use mathlib.Core.Path.{◌≡◌, sym, ◌∙◌, ap}
use mathlib.Core.Bool.{true, false, not}
use native.Mathlib.Numerals.{add-one}
use borrow.Author.Tests.{le-leb}
use Rattle.model.specs.Table.{mode_of, single_instance}
use Rattle.model.proofs.Logic.{refuted, contradiction}
use Rattle.model.proofs.Tables.{modes-decides}
use Rattle.table.proofs.ModeLaws.{named}
use Rattle.table.proofs.modes_fit.Goals as goal

pub returns-then-is_none : goal.returns-then-is_none
returns-then-is_none c =
    let m = mode_of c.args.table.now c.loop-x.x in
    let bad : leb m single_instance ≡ false = sym (named m) ∙ (rw c.launch_mode.ensures at (c.is_none.ensures ∙ ap not c.if-is_none.true)) in
    let d = modes-decides c.args.table.now c.args.n in
    sym (refuted _ d (λ f. contradiction (le-leb m single_instance (f c.loop-x.x c.loop-x-test.true)) bad))

pub loop-x-preserved : goal.loop-x-preserved
loop-x-preserved c =
    let m = mode_of c.args.table.now c.loop-x.x in
    let fits : leb m single_instance ≡ true = sym (named m) ∙ (rw c.launch_mode.ensures at (c.is_none.ensures ∙ ap not c.if-is_none.false)) in
    rw (add-one, c.loop-x.invariant, fits)
