-- The word under the mask of all bits but the seven.
use Rattle.flags.proofs.Masks.{other}
use Rattle.flags.proofs.has_other_bit.Goals as goal

pub returns : goal.returns
returns c = other c.args.word c.ranges.word.fits
