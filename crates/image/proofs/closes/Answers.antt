-- `image::closes` meets its contract: the bytes are one of the three pairs.
use lib.Dec.{eqb}
use Rattle.image.proofs.Closing.{one-pair}
use Rattle.image.proofs.closes.Goals as goal

pub returns : goal.returns
returns c = one-pair c.args.edition (eqb c.args.last 0x42)
