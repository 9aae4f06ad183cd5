-- The records are run in the manner that says nothing and tallies the answers.
use mathlib.Core.Path.{◌∙◌}
use Rattle.model.specs.Player.{records_in}
use Rattle.session.specs.Stored.{view}
use Rattle.depths.proofs.BlockLaws.{said-heights}
use Rattle.depths.proofs.tally_records.Goals as goal

pub returns : goal.returns
returns c =
    let a = c.args in
    let h = c.run-ran.ensures in
    record { session = h.session; tally = h.tally ∙ said-heights a.table.now (records_in a.input.now) (view a.from) a.tally; keeps = h.keeps }
