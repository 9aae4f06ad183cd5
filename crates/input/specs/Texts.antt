-- What is printed of a whole input, as far as a buffer has room for it. Of the player's text no line is begun for which there is
-- less room than the longest line needs; those of `explain` and `depth` are written whole or not at all.
use Rattle.std.specs.Prelude.{ℕ, ◌*◌, ◌≤◌, Bool, List, [], leb, length, if◌then◌else◌}
use Rattle.model.specs.Session.{fresh}
use Rattle.model.specs.Answers.{refused}
use Rattle.model.specs.Player.{line_of, text_of, records_in, starts_with_table, table_in, record_bytes, longest_line}
use Rattle.model.specs.Explained.{explain_text, longest_explained}
use Rattle.play.specs.Fitting.{fitting}
use Rattle.depths.specs.Reports.{depth_text, longest_report}

-- "0 and the answer of refusal 1"
abbrev pub stop_line : List ℕ
stop_line = line_of 0 (refused 1)

-- the same where the buffer has room for the longest line
abbrev pub stop_written : List ℕ → List ℕ
stop_written out = if leb longest_line (length out) then stop_line else []

unfoldable pub fitting_text : List ℕ → List ℕ → List ℕ
fitting_text input out =
    if starts_with_table input then text_of (table_in input) fresh (fitting (record_bytes input) out) else stop_written out

-- the buffer has room for the longest line, and for as many of them as there are records
pub record Roomy (input out : List ℕ) : Type 0 where
  pub stop : longest_line ≤ length out
  pub lines : longest_line * length (records_in (record_bytes input)) ≤ length out

-- ---- `explain` and `depth`

-- the room that is asked for: the longest line and what stands under it for each record; or the line of the player that stops
unfoldable pub explain_room : List ℕ → ℕ
explain_room input = if starts_with_table input then longest_explained * length (records_in (record_bytes input)) else longest_line

unfoldable pub explain_written : Bool → List ℕ → List ℕ → List ℕ
explain_written words input out = if leb (explain_room input) (length out) then explain_text words input else []

unfoldable pub depth_written : List ℕ → List ℕ → List ℕ
depth_written input out = if leb longest_report (length out) then depth_text input else []
