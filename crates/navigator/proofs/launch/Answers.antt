-- `navigator::launch` meets its contract: what `calls::launch` gives with the refusal of the shared checks.
use Rattle.model.specs.Calls.{launch}
use Rattle.navigator.proofs.Promised.{call-promised}
use Rattle.navigator.proofs.launch.Goals as goal

pub launch-requires : goal.launch-requires
launch-requires c = c.check-refused.ensures

pub returns : goal.returns
returns c =
    let a = c.args in
    let told = call-promised a.table.now a.s c.launch.result (launch a.edition) c.launch.ensures in
    record { gives = told.0; keeps = told.1.0; promise = told.1.1 }
