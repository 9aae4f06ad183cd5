-- `answer::look_at` meets its contract: a look reads the front task and the numbers.
use mathlib.Core.Path.{sym, ◌∙◌}
use Rattle.session.proofs.Known.{sized}
use Rattle.answer.proofs.LookLaws.{look-fronted}
use Rattle.answer.proofs.look_at.Goals as goal

pub of_front-requires : goal.of_front-requires
of_front-requires c = λ some. (c.requires.filled some, c.requires.low some)

pub returns : goal.returns
returns c =
    c.of_front.ensures ∙ sym (look-fronted c.args.s (sized c.args.s _ c.well_formed.0) c.requires)
