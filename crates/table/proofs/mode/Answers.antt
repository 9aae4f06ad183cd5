-- The byte stands behind the two first, two for each screen before.
use Rattle.std.proofs.Common.{ℕ, ◌+◌, ◌*◌, get_or, ap}
use Rattle.model.specs.Table.{mode_of}
use Rattle.table.proofs.mode.Goals as goal

pub returns : goal.returns
unfolding mode_of
returns c = ap (λ (k : ℕ). get_or c.args.table.now (2 + 2 * k) 0) c.from.ensures
