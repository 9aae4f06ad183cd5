-- The language's count of ones is the number of the screens.
use Rattle.fronts.proofs.SetLaws.{ones-counted}
use Rattle.fronts.proofs.size_of.Goals as goal

pub returns : goal.returns
returns c = ones-counted 64 c.args.set c.ranges.set.fits
