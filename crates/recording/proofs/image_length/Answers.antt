-- An image follows a restore and nothing else.
use borrow.Author.Tests.{eq-eqb, ne_eqb}
use Rattle.recording.specs.CallBytes.{image_length}
use Rattle.recording.proofs.image_length.Goals as goal

pub returns-then-bytes-eq6 : goal.returns-then-bytes-eq6
unfolding image_length
returns-then-bytes-eq6 c = rw (eq-eqb _ _ c.if-bytes-eq6.true) c.word_at.ensures

pub returns : goal.returns
unfolding image_length
returns c = rw (ne_eqb _ _ c.if-bytes-eq6.false)
