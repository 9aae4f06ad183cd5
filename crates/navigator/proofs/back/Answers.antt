-- `navigator::back` meets its contract: what `calls::back` gives with the refusal of the shared checks.
use Rattle.model.specs.Calls.{back}
use Rattle.navigator.proofs.Promised.{call-promised}
use Rattle.navigator.proofs.back.Goals as goal

pub returns : goal.returns
returns c =
    let a = c.args in
    let told = call-promised a.table.now a.s c.back.result back (rw (c.checked.ensures.table, c.checked.ensures.session) at c.back.ensures) in
    record { gives = told.0; keeps = told.1.0; promise = told.1.1 }
