-- The text that fits, by what the input begins with; and that it is the whole text where the buffer is roomy.
use Prim.Native.Nat.{ℕ, ◌+◌, ◌*◌, ◌-◌, ◌≤◌, ◌<◌}
use mathlib.Core.Path.{◌≡◌, ◌∙◌, ap}
use mathlib.Core.Bool.{true, false}
use mathlib.Core.List.{List, []}
use native.Mathlib.Omega.{arith}
use lib.ListN.{length, take, drop, length-drop}
use lib.Seq.{take_all}
use borrow.Author.Tests.{le-leb, lt-leb}
use Rattle.std.specs.Prelude.{Result, Ok}
use borrow.Rule.Slice.PartMut.{mid_of}
use Rattle.model.specs.Table.{size_of}
use Rattle.model.specs.Session.{fresh}
use Rattle.model.specs.Player.{text_of, starts_with_table, table_in, record_bytes, player_text, longest_line}
use Rattle.table.specs.declared.NoTable.{NoTable}
use Rattle.table.specs.Beginnings.{beginning_of}
use Rattle.table.proofs.BeginningLaws.{told}
use Rattle.play.specs.Fitting.{fitting}
use Rattle.play.proofs.BlockLaws.{fitting-all}
use Rattle.input.specs.Texts.{stop_line, stop_written, fitting_text, Roomy}

-- ---- the line with which the player stops

module _ (out : List ℕ) where
  pub stop-line : longest_line ≤ length out → stop_written out ≡ stop_line
  stop-line h = rw (le-leb longest_line (length out) h)

  pub stop-none : length out < longest_line → stop_written out ≡ []
  stop-none h = rw (lt-leb longest_line (length out) h)

-- ---- the text

module _ (input out : List ℕ) where
  pub text-stop : starts_with_table input ≡ false → fitting_text input out ≡ stop_written out
  unfolding fitting_text
  text-stop e = rw e

  pub text-table : starts_with_table input ≡ true → fitting_text input out ≡ text_of (table_in input) fresh (fitting (record_bytes input) out)
  unfolding fitting_text
  text-table e = rw e

  pub text-whole : Roomy input out → fitting_text input out ≡ player_text input
  unfolding fitting_text player_text
  text-whole h = rw (fitting-all (record_bytes input) out h.lines, le-leb longest_line (length out) h.stop)

-- ---- the parts that are lent

-- the table stands in the input
pub within : {n : ℕ} {b : Result ℕ NoTable} (l : List ℕ) → b ≡ beginning_of l → b ≡ Ok n → n ≤ length l
within {n} l e f = let k = told l (Ok n) e f in omega arith

module _ (l : List ℕ) (n : ℕ) (e : n ≡ 2 + 2 * size_of l) where
  pub table-part : take n l ≡ table_in l
  table-part = ap (λ (k : ℕ). take k l) e

  pub records-part : mid_of n (length l - n) l ≡ record_bytes l
  records-part = take_all (length l - n) (drop n l) (omega (arith, length-drop n l)) ∙ ap (λ (k : ℕ). drop k l) e
