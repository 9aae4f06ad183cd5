-- The text of the first entries, one more at a time.
use Prim.Native.Nat.{ℕ, ◌+◌, ◌≤◌}
use mathlib.Core.List.{List, [], ◌∷◌, ◌++◌}
use native.Mathlib.Numerals.{add-one}
use lib.ListN.{length}
use Rattle.model.specs.Player.{newline, decimal}
use Rattle.model.proofs.WrittenLaws.{Wrote, wrote-nil}
use Rattle.line.proofs.LineLaws.{number_behind}
use Rattle.flag_chart.specs.Chart.{entry_at, lines_of}

pub lines_none : (d : List ℕ) → Wrote d 0 (lines_of 0) d 0
unfolding lines_of
lines_none d = wrote-nil d 0

pub lines_more : (i : ℕ) {d d' d'' : List ℕ} {m r : ℕ}
    → Wrote d 0 (lines_of i) d' m → m ≤ length d → Wrote d' m (decimal (entry_at i) ++ newline ∷ []) d'' r → Wrote d 0 (lines_of (i + 1)) d'' r
unfolding lines_of
lines_more i v fits w = rw (add-one i) (number_behind (entry_at i) newline v fits w)
