-- The sum of what mode, caller and flags are worth.
use borrow.Author.Rules.{rules}
use Rattle.flag_chart.specs.Chart.{index_of}
use Rattle.flag_chart.proofs.index.Goals as goal

pub returns : goal.returns
unfolding index_of
returns c = search rules
