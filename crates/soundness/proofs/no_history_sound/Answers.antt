-- `soundness::no_history_sound` meets its contract: the tests are the definition's, in its order.
use mathlib.Core.Path.{refl}
use Rattle.model.specs.Session.{no_history_sound}
use Rattle.soundness.proofs.no_history_sound.Goals as goal

pub returns : goal.returns
unfolding no_history_sound
returns c = refl
