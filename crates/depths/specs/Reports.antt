-- The line of a report, byte for byte, in ASCII; and that of a whole recording.
use Rattle.std.specs.Prelude.{ℕ, ◌/◌, ◌%◌, min, ◌≡◌, true, List, [], ◌∷◌, ◌++◌, ltb, length, if◌then◌else◌}
use Rattle.model.specs.declared.Answer.{Answer}
use Rattle.model.specs.Session.{fresh}
use Rattle.model.specs.Player.{digit, space, newline, decimal, records_in, starts_with_table, table_in, record_bytes}
use Rattle.tally.specs.declared.Report.{Report}
use Rattle.tally.specs.Tallied.{most_calls, tallied, report_of}
use Rattle.depths.specs.Depths.{answers_to}

-- a number below 1,000,000 in base ten: from 1000 on its thousands and three digits
unfoldable pub figures : ℕ → List ℕ
figures n =
    if ltb n 1000 then decimal n else
    decimal (n / 1000) ++ digit (n / 100 % 10) ∷ digit (n / 10 % 10) ∷ digit (n % 10) ∷ []

-- "with spaces"; a line ends with a newline
unfoldable pub numbers_text : List ℕ → List ℕ
numbers_text [] = newline ∷ []
numbers_text (n ∷ []) = figures n ++ newline ∷ []
numbers_text (n ∷ k ∷ ns) = figures n ++ space ∷ numbers_text (k ∷ ns)

-- "prints the four": "accepted calls, refused calls, greatest front height, mean front height after accepted calls in tenths"
unfoldable pub report_text : Report → List ℕ
report_text r = numbers_text (r.accepted ∷ r.refused ∷ r.greatest ∷ r.tenths ∷ [])

-- no line is longer: each number has fewer than seven digits, and a byte behind it
abbrev pub longest_report : ℕ
longest_report = 28

-- the answers that the player's lines show: none where the player stops at the table
unfoldable pub answers_in : List ℕ → List Answer
answers_in input = if starts_with_table input then answers_to (table_in input) fresh (records_in (record_bytes input)) else []

-- what `depth` prints of a recording
unfoldable pub depth_text : List ℕ → List ℕ
depth_text input = report_text (report_of (answers_in input))

-- "31 at the 65,536th call": of a recording's calls the first 65,535 are tallied, each of them
abbrev pub TalliesFirst : Type 0
TalliesFirst =
    (input : List ℕ) → starts_with_table input ≡ true
    → length (tallied (answers_in input)) ≡ min most_calls (length (records_in (record_bytes input)))
