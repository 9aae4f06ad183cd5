-- `navigator::save` meets its contract: refused by the shared checks, or what `calls::save` gives on a sound session.
use mathlib.Core.Path.{sym}
use Rattle.model.specs.Refusals.{refusal_number}
use Rattle.model.proofs.RefusalLaws.{number-some}
use Rattle.session.proofs.Known.{sized}
use Rattle.checks.proofs.SharedLaws.{shared-ready}
use Rattle.image_calls.proofs.Saving.{save-refused, save-gives}
use Rattle.navigator.proofs.Promise3Laws.{promise3}
use Rattle.navigator.proofs.save.Goals as goal

pub save-requires : goal.save-requires
save-requires c = let a = c.args in shared-ready a.table.now a.s (sym c.in-Ok.ensures)

pub returns-in-Ok : goal.returns-in-Ok
returns-in-Ok c =
    let a = c.args in
    let g = save-gives a.table.now a.s a.out.now (sized a.s _ c.well_formed.1.0) c.save.result _ c.save.ensures in
    record { gives = g.0; restores = g.1.0; only = g.1.1; promise = promise3 a.table.now }

pub returns-in-Err : goal.returns-in-Err
returns-in-Err c =
    let a = c.args in
    let e = save-refused a.table.now a.s a.out.now (refusal_number c.in-Err.refusal) (sym c.in-Err.ensures) (number-some c.in-Err.refusal) in
    let g = save-gives a.table.now a.s a.out.now (sized a.s _ c.well_formed.1.0) c.refuse_save.result a.out.now (rw (c.refuse_save.ensures, c.number.ensures) (sym e)) in
    record { gives = g.0; restores = g.1.0; only = g.1.1; promise = promise3 a.table.now }
