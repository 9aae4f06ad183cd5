-- The byte read is the one that the definition names.
use borrow.Author.Rules.{rules}
use Rattle.model.specs.Table.{affinity_of}
use Rattle.table.proofs.affinity.Goals as goal

pub returns : goal.returns
unfolding affinity_of
returns c = search rules
