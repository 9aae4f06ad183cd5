-- `places::place_root` meets its contract, by its one test.
use mathlib.Core.Path.{sym, ◌∙◌}
use borrow.Author.Tests.{eq-eqb, ne_eqb}
use Rattle.places.proofs.place_root.Goals as goal

pub returns-then-expected_sum-sum_of : goal.returns-then-expected_sum-sum_of
returns-then-expected_sum-sum_of c =
    rw (ne_eqb _ _ (λ e. c.if-expected_sum-sum_of.true (c.expected_sum.ensures ∙ e ∙ sym c.sum_of.ensures)))

pub returns : goal.returns
returns c =
    rw (eq-eqb _ _ (sym c.expected_sum.ensures ∙ c.if-expected_sum-sum_of.false ∙ c.sum_of.ensures))
