-- `soundness::edition_sound` meets its contract: the tests are the definition's, in its order.
use Rattle.model.specs.Session.{edition_sound}
use Rattle.soundness.proofs.Fits.{edition-kept}
use Rattle.soundness.proofs.edition_sound.Goals as goal

pub returns : goal.returns
unfolding edition_sound
returns c = let a = c.args in rw (c.is_edition.ensures, edition-kept a.n a.edition)
