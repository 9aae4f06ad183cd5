-- The table has the row of b.
use native.Mathlib.Omega.{arith}
use Rattle.model.proofs.Tables.{good-shaped}
use Rattle.search.proofs.by_root_in.Goals as goal

pub seeks_by_root-requires : goal.seeks_by_root-requires
seeks_by_root-requires c =
    let g = good-shaped c.args.table.now c.requires.good in
    let k = c.requires.known in
    omega arith
