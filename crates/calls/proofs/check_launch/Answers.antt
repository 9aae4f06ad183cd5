-- `calls::check_launch` meets its contract: 22 first, then 30.
use mathlib.Core.Path.{sym, ◌∙◌, ap}
use borrow.Author.Tests.{eq-eqb, ne_eqb}
use Rattle.model.specs.Session.{is_edition}
use Rattle.calls.proofs.check_launch.Goals as goal

pub returns-then-n-ne0 : goal.returns-then-n-ne0
returns-then-n-ne0 c = rw (ne_eqb c.args.n 0 c.if-n-ne0.true)

pub returns-then-not-is_edition : goal.returns-then-not-is_edition
returns-then-not-is_edition c =
    rw (
      eq-eqb c.args.n 0 c.if-n-ne0.false,
      ap is_edition (sym c.edition_named.ensures) ∙ sym c.is_edition.ensures ∙ c.if-not-is_edition.true,
    )

pub returns : goal.returns
returns c =
    rw (
      eq-eqb c.args.n 0 c.if-n-ne0.false,
      ap is_edition (sym c.edition_named.ensures) ∙ sym c.is_edition.ensures ∙ c.if-not-is_edition.false,
    )
