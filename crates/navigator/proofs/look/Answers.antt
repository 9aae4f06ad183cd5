-- `navigator::look` meets its contract: what `calls::look` gives with the refusal of the shared checks; the session stays.
use Rattle.session.proofs.Known.{sized}
use Rattle.navigator.proofs.Promised.{look-promised}
use Rattle.navigator.proofs.look.Goals as goal

pub returns : goal.returns
returns c =
    let a = c.args in
    let told = look-promised a.table.now a.s c.look.result (sized a.s _ c.well_formed.1.0) (rw (c.checked.ensures.table, c.checked.ensures.session) at c.look.ensures) in
    record { gives = told.0; stays = told.1.0; keeps = told.1.1.0; promise = told.1.1.1 }
