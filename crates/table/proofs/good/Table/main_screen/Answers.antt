-- A good table has the byte of its main screen.
use native.Mathlib.Omega.{arith}
use Rattle.model.proofs.Tables.{good-shaped}
use Rattle.table.proofs.good.Table.main_screen.Goals as goal

pub main_screen-requires : goal.main_screen-requires
main_screen-requires c = let g = good-shaped c.self.inside.bytes.now c.self.invariant in omega arith
