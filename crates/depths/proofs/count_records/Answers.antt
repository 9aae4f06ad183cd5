-- Six bytes a record, of which the last may be cut.
use native.Mathlib.Omega.{arith}
use Rattle.play.proofs.BlockLaws.{records-few, records-many}
use Rattle.depths.proofs.count_records.Goals as goal

pub returns : goal.returns
returns c = let l = c.args.input.now in omega (arith, records-few l, records-many l, c.div_ceil.ensures)
