-- `image::shaped` meets its contract: fewer than six bytes are no image, and of six or more the trailer decides.
use mathlib.Core.Path.{sym}
use Rattle.image.proofs.ReadTrailer.{shaped-short, shaped-long}
use Rattle.image.proofs.shaped.Goals as goal

pub returns-then-long-lt6 : goal.returns-then-long-lt6
returns-then-long-lt6 c = sym (shaped-short c.args.image.now c.if-long-lt6.true)

pub returns : goal.returns
returns c =
    let image = c.args.image.now in
    rw (c.closes.ensures)
    (sym (shaped-long image c.if-long-lt6.false))
