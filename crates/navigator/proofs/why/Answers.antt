-- `navigator::why` meets its contract: what `reasons::why` gives with the refusal of the shared checks.
use Rattle.reasons.proofs.Explains.{why-explains}
use Rattle.navigator.proofs.why.Goals as goal

pub returns : goal.returns
returns c =
    let a = c.args in
    let told = why-explains a.table.now a.s a.b a.word (rw (c.checked.ensures.table, c.checked.ensures.session) at c.why.ensures) in
    record { gives = told.0; refusal = told.1.0; zeros = told.1.1.0; fits = told.1.1.1.0; found = told.1.1.1.1.0; carries = told.1.1.1.1.1.0; affinity = told.1.1.1.1.1.1.0; edition = told.1.1.1.1.1.1.1.0; mark = told.1.1.1.1.1.1.1.1.0; bit = told.1.1.1.1.1.1.1.1.1 }
