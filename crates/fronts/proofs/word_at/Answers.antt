-- The flags of the digits of the index.
use mathlib.Core.Path.{refl}
use Rattle.fronts.specs.Fronts.{word_at}
use Rattle.fronts.proofs.word_at.Goals as goal

pub returns : goal.returns
unfolding word_at
returns c = refl
