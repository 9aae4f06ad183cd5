-- `navigator::finish_start` meets its contract: what `calls::start` gives with the refusal of the shared checks.
use Rattle.model.specs.Calls.{finishing_start}
use Rattle.navigator.proofs.Promised.{call-promised}
use Rattle.navigator.proofs.finish_start.Goals as goal

pub returns : goal.returns
returns c =
    let a = c.args in
    let told = call-promised a.table.now a.s c.start.result (finishing_start a.b a.word) (rw (c.checked.ensures.table, c.checked.ensures.session) at c.start.ensures) in
    record { gives = told.0; keeps = told.1.0; promise = told.1.1 }
