-- Each entry is that of the rule: one test that is computed over all of them, and a law that turns it into the rule at each.
use Prim.Native.Nat.{ℕ}
use mathlib.Core.Bool.{Bool}
use mathlib.Core.List.{List, [], ◌∷◌}
use lib.Dec.{eqb, eqb→eq}
use lib.ListN.{get_or}
use borrow.Author.Rules.{rules}
use borrow.Author.Tests.{le-ltb}
use Rattle.flag_chart.specs.Chart.{chart_rule, flags_in, entry_at}
use Rattle.flag_chart.proofs.Table.{at}
use Rattle.flag_chart.proofs.IndexLaws.{indexes-chart}
use Rattle.flag_chart.proofs.entry.Goals as goal

-- the constant's bytes
chart : List ℕ
chart =
    3 ∷ 3 ∷ 67 ∷ 67 ∷ 19 ∷ 19 ∷ 19 ∷ 19 ∷ 3 ∷ 3 ∷ 67 ∷ 67 ∷ 19 ∷ 19 ∷ 19 ∷ 19 ∷ 11 ∷ 11 ∷ 75 ∷ 75 ∷ 27 ∷ 27 ∷ 27 ∷ 27 ∷ 11 ∷ 11 ∷ 75 ∷ 75 ∷ 27 ∷ 27 ∷ 27 ∷ 27 ∷
    5 ∷ 37 ∷ 5 ∷ 37 ∷ 21 ∷ 37 ∷ 21 ∷ 37 ∷ 4 ∷ 4 ∷ 4 ∷ 4 ∷ 4 ∷ 4 ∷ 4 ∷ 4 ∷ 13 ∷ 37 ∷ 13 ∷ 37 ∷ 21 ∷ 37 ∷ 21 ∷ 37 ∷ 4 ∷ 4 ∷ 4 ∷ 4 ∷ 4 ∷ 4 ∷ 4 ∷ 4 ∷
    5 ∷ 37 ∷ 5 ∷ 37 ∷ 21 ∷ 37 ∷ 21 ∷ 37 ∷ 4 ∷ 4 ∷ 4 ∷ 4 ∷ 4 ∷ 4 ∷ 4 ∷ 4 ∷ 13 ∷ 37 ∷ 13 ∷ 37 ∷ 21 ∷ 37 ∷ 21 ∷ 37 ∷ 4 ∷ 4 ∷ 4 ∷ 4 ∷ 4 ∷ 4 ∷ 4 ∷ 4 ∷
    5 ∷ 37 ∷ 5 ∷ 37 ∷ 21 ∷ 37 ∷ 21 ∷ 37 ∷ 4 ∷ 4 ∷ 4 ∷ 4 ∷ 4 ∷ 4 ∷ 4 ∷ 4 ∷ 13 ∷ 37 ∷ 13 ∷ 37 ∷ 21 ∷ 37 ∷ 21 ∷ 37 ∷ 4 ∷ 4 ∷ 4 ∷ 4 ∷ 4 ∷ 4 ∷ 4 ∷ 4 ∷
    11 ∷ 11 ∷ 75 ∷ 75 ∷ 27 ∷ 27 ∷ 27 ∷ 27 ∷ 11 ∷ 11 ∷ 75 ∷ 75 ∷ 27 ∷ 27 ∷ 27 ∷ 27 ∷ 11 ∷ 11 ∷ 75 ∷ 75 ∷ 27 ∷ 27 ∷ 27 ∷ 27 ∷ 11 ∷ 11 ∷ 75 ∷ 75 ∷ 27 ∷ 27 ∷ 27 ∷ 27 ∷
    13 ∷ 37 ∷ 13 ∷ 37 ∷ 21 ∷ 37 ∷ 21 ∷ 37 ∷ 4 ∷ 4 ∷ 4 ∷ 4 ∷ 4 ∷ 4 ∷ 4 ∷ 4 ∷ 13 ∷ 37 ∷ 13 ∷ 37 ∷ 21 ∷ 37 ∷ 21 ∷ 37 ∷ 4 ∷ 4 ∷ 4 ∷ 4 ∷ 4 ∷ 4 ∷ 4 ∷ 4 ∷
    13 ∷ 37 ∷ 13 ∷ 37 ∷ 21 ∷ 37 ∷ 21 ∷ 37 ∷ 4 ∷ 4 ∷ 4 ∷ 4 ∷ 4 ∷ 4 ∷ 4 ∷ 4 ∷ 13 ∷ 37 ∷ 13 ∷ 37 ∷ 21 ∷ 37 ∷ 21 ∷ 37 ∷ 4 ∷ 4 ∷ 4 ∷ 4 ∷ 4 ∷ 4 ∷ 4 ∷ 4 ∷
    13 ∷ 37 ∷ 13 ∷ 37 ∷ 21 ∷ 37 ∷ 21 ∷ 37 ∷ 4 ∷ 4 ∷ 4 ∷ 4 ∷ 4 ∷ 4 ∷ 4 ∷ 4 ∷ 13 ∷ 37 ∷ 13 ∷ 37 ∷ 21 ∷ 37 ∷ 21 ∷ 37 ∷ 4 ∷ 4 ∷ 4 ∷ 4 ∷ 4 ∷ 4 ∷ 4 ∷ 4 ∷
    2 ∷ 34 ∷ 2 ∷ 34 ∷ 2 ∷ 34 ∷ 2 ∷ 34 ∷ 2 ∷ 34 ∷ 2 ∷ 34 ∷ 2 ∷ 34 ∷ 2 ∷ 34 ∷ 2 ∷ 34 ∷ 2 ∷ 34 ∷ 2 ∷ 34 ∷ 2 ∷ 34 ∷ 2 ∷ 34 ∷ 2 ∷ 34 ∷ 2 ∷ 34 ∷ 2 ∷ 34 ∷
    2 ∷ 34 ∷ 2 ∷ 34 ∷ 2 ∷ 34 ∷ 2 ∷ 34 ∷ 2 ∷ 34 ∷ 2 ∷ 34 ∷ 2 ∷ 34 ∷ 2 ∷ 34 ∷ 2 ∷ 34 ∷ 2 ∷ 34 ∷ 2 ∷ 34 ∷ 2 ∷ 34 ∷ 2 ∷ 34 ∷ 2 ∷ 34 ∷ 2 ∷ 34 ∷ 2 ∷ 34 ∷
    2 ∷ 34 ∷ 2 ∷ 34 ∷ 2 ∷ 34 ∷ 2 ∷ 34 ∷ 2 ∷ 34 ∷ 2 ∷ 34 ∷ 2 ∷ 34 ∷ 2 ∷ 34 ∷ 2 ∷ 34 ∷ 2 ∷ 34 ∷ 2 ∷ 34 ∷ 2 ∷ 34 ∷ 2 ∷ 34 ∷ 2 ∷ 34 ∷ 2 ∷ 34 ∷ 2 ∷ 34 ∷
    2 ∷ 34 ∷ 2 ∷ 34 ∷ 2 ∷ 34 ∷ 2 ∷ 34 ∷ 2 ∷ 34 ∷ 2 ∷ 34 ∷ 2 ∷ 34 ∷ 2 ∷ 34 ∷ 2 ∷ 34 ∷ 2 ∷ 34 ∷ 2 ∷ 34 ∷ 2 ∷ 34 ∷ 2 ∷ 34 ∷ 2 ∷ 34 ∷ 2 ∷ 34 ∷ 2 ∷ 34 ∷
    1 ∷ 1 ∷ 1 ∷ 1 ∷ 1 ∷ 1 ∷ 1 ∷ 1 ∷ 1 ∷ 1 ∷ 1 ∷ 1 ∷ 1 ∷ 1 ∷ 1 ∷ 1 ∷ 1 ∷ 1 ∷ 1 ∷ 1 ∷ 1 ∷ 1 ∷ 1 ∷ 1 ∷ 1 ∷ 1 ∷ 1 ∷ 1 ∷ 1 ∷ 1 ∷ 1 ∷ 1 ∷
    1 ∷ 1 ∷ 1 ∷ 1 ∷ 1 ∷ 1 ∷ 1 ∷ 1 ∷ 1 ∷ 1 ∷ 1 ∷ 1 ∷ 1 ∷ 1 ∷ 1 ∷ 1 ∷ 1 ∷ 1 ∷ 1 ∷ 1 ∷ 1 ∷ 1 ∷ 1 ∷ 1 ∷ 1 ∷ 1 ∷ 1 ∷ 1 ∷ 1 ∷ 1 ∷ 1 ∷ 1 ∷
    1 ∷ 1 ∷ 1 ∷ 1 ∷ 1 ∷ 1 ∷ 1 ∷ 1 ∷ 1 ∷ 1 ∷ 1 ∷ 1 ∷ 1 ∷ 1 ∷ 1 ∷ 1 ∷ 1 ∷ 1 ∷ 1 ∷ 1 ∷ 1 ∷ 1 ∷ 1 ∷ 1 ∷ 1 ∷ 1 ∷ 1 ∷ 1 ∷ 1 ∷ 1 ∷ 1 ∷ 1 ∷
    1 ∷ 1 ∷ 1 ∷ 1 ∷ 1 ∷ 1 ∷ 1 ∷ 1 ∷ 1 ∷ 1 ∷ 1 ∷ 1 ∷ 1 ∷ 1 ∷ 1 ∷ 1 ∷ 1 ∷ 1 ∷ 1 ∷ 1 ∷ 1 ∷ 1 ∷ 1 ∷ 1 ∷ 1 ∷ 1 ∷ 1 ∷ 1 ∷ 1 ∷ 1 ∷ 1 ∷ 1 ∷ []

right : ℕ → ℕ → Bool
right i x = eqb x (entry_at i)

pub returns-then-index-lt-ENTRIES : goal.returns-then-index-lt-ENTRIES
unfolding chart right entry_at flags_in chart_rule
returns-then-index-lt-ENTRIES c =
    let i = c.args.index in
    record { entry = eqb→eq (get_or chart i 0) (entry_at i) (at right chart tt i (search rules)); indexed = indexes-chart }

pub returns : goal.returns
unfolding entry_at
returns c = record { entry = rw (le-ltb _ _ c.if-index-lt-ENTRIES.false); indexed = indexes-chart }
