-- Refused, or the set and its size.
use mathlib.Core.Path.{◌≡◌, sym}
use Rattle.model.specs.Refusals.{refusal_number}
use Rattle.model.proofs.RefusalLaws.{number-some}
use Rattle.starts.proofs.Seeking.{unless-made, unless-number}
use Rattle.fronts.specs.Fronts.{fronts_refusal}
use Rattle.fronts.proofs.FrontLaws.{refused-told, set_told}
use Rattle.fronts.proofs.fronts.Goals as goal

pub returns-in-Ok : goal.returns-in-Ok
returns-in-Ok c =
    let a = c.args in
    let (own, set) = unless-made (fronts_refusal a.table.now a.s a.b a.mask a.value) c.in-Ok.ensures in
    let t = set_told a.table.now a.s a.b a.mask a.value own (rw (c.size_of.ensures, set)) in
    record { gives = t.0; exactly = t.1.0; empty = t.1.1.0; more = t.1.1.1.0; bit = t.1.1.1.1 }

pub returns-in-Err : goal.returns-in-Err
returns-in-Err c =
    let a = c.args in
    let own : fronts_refusal a.table.now a.s a.b a.mask a.value ≡ refusal_number c.in-Err.refusal = sym (unless-number _ _ c.in-Err.ensures) in
    let t = refused-told a.table.now a.s a.b a.mask a.value own (number-some c.in-Err.refusal) c.refuse.ensures in
    record { gives = t.0; exactly = t.1.0; empty = t.1.1.0; more = t.1.1.1.0; bit = t.1.1.1.1 }
