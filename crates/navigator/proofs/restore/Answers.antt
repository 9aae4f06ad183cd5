-- `navigator::restore` meets its contract: what `calls::restore` gives with the refusal of the shared checks.
use Rattle.image_calls.proofs.RestoreLaws.{restore-gives, all-bytes}
use Rattle.navigator.proofs.Promise3Laws.{promise3}
use Rattle.navigator.proofs.restore.Goals as goal

pub returns : goal.returns
returns c =
    let a = c.args in
    let known = c.shared_slice_known-2-1.given in
    let bytes = all-bytes a.image.now (λ i. (known i).fits) in
    let g = restore-gives a.table.now a.s a.image.now bytes c.restore.result (rw (c.checked.ensures.table, c.checked.ensures.session) at c.restore.ensures) in
    record { gives = g.0; keeps = g.1.0; accepts = g.1.1.0; brings = g.1.1.1.0; saves = g.1.1.1.1; promise = promise3 a.table.now }
