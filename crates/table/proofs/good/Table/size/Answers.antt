-- A good table has bytes, and N is at most 64.
use native.Mathlib.Omega.{arith}
use Rattle.model.proofs.Tables.{good-shaped}
use Rattle.table.proofs.good.Table.size.Goals as goal

pub size-requires : goal.size-requires
size-requires c = let g = good-shaped c.self.inside.bytes.now c.self.invariant in omega arith

pub returns-clause-most : goal.returns-clause-most
returns-clause-most c = let g = good-shaped c.self.inside.bytes.now c.self.invariant in omega arith
