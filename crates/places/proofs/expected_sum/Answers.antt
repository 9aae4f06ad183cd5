-- `places::expected_sum` meets its contract, by its tests.
use native.Mathlib.Omega.{arith}
use borrow.Author.Tests.{eq-eqb, ne_eqb}
use Rattle.places.specs.PlaceTests.{expected_sum}
use Rattle.places.proofs.expected_sum.Goals as goal

pub returns-then-used : goal.returns-then-used
unfolding expected_sum
returns-then-used c = rw c.if-used.true c.used_sum.ensures

pub returns-then-t-ne0 : goal.returns-then-t-ne0
unfolding expected_sum
returns-then-t-ne0 c = rw (c.if-used.false, ne_eqb c.args.t.root 0 (λ e. omega arith))

pub returns-then-t-ne0-2 : goal.returns-then-t-ne0-2
unfolding expected_sum
returns-then-t-ne0-2 c =
    let t = c.args.t in
    rw (c.if-used.false, eq-eqb t.root 0 (omega arith), ne_eqb t.height 0 (λ e. omega arith))

pub returns : goal.returns
unfolding expected_sum
returns c =
    let t = c.args.t in
    rw (c.if-used.false, eq-eqb t.root 0 (omega arith), eq-eqb t.height 0 (omega arith))
