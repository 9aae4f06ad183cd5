-- Document 01, "Player": how its input is read, and the text that it prints, byte for byte.
use Rattle.std.specs.Prelude.{ℕ, ◌+◌, ◌*◌, ◌/◌, ◌%◌, Bool, ◌&&◌, ◌||◌, List, [], ◌∷◌, ◌++◌, leb, ltb, eqb, length, take, drop, if◌then◌else◌}
use Rattle.model.specs.declared.Answer.{Answer}
use Rattle.model.specs.Table.{size_of, most_screens}
use Rattle.model.specs.Session.{State, fresh}
use Rattle.model.specs.Answers.{Outcome, outcome, refused, numbers_of}
use Rattle.model.specs.Calls.{Call, launch, start, finishing_start, back, look, call}

-- ---- text, in ASCII

abbrev pub digit : ℕ → ℕ
digit d = 48 + d

abbrev pub space : ℕ
space = 32

abbrev pub newline : ℕ
newline = 10

-- a number below 1000 in base ten; every number of a line is one, since the kind is a byte
unfoldable pub decimal : ℕ → List ℕ
decimal n =
    if ltb n 10 then digit n ∷ [] else
    if ltb n 100 then digit (n / 10) ∷ digit (n % 10) ∷ [] else
    digit (n / 100) ∷ digit (n / 10 % 10) ∷ digit (n % 10) ∷ []

-- "spaces between"; a line ends with a newline
unfoldable pub line_text : List ℕ → List ℕ
line_text [] = newline ∷ []
line_text (n ∷ []) = decimal n ++ newline ∷ []
line_text (n ∷ k ∷ ns) = decimal n ++ space ∷ line_text (k ∷ ns)

-- "One line a record ..: kind, then the answer"
unfoldable pub line_of : ℕ → Answer → List ℕ
line_of kind a = line_text (kind ∷ numbers_of a)

-- the bytes of the longest line: each number has at most three digits, and a space or the newline behind it
abbrev pub longest_line : ℕ
longest_line = 4 * length (0 ∷ numbers_of (refused 0))

-- ---- records

-- what a record asks for: a call, or nothing that the player knows
pub data Request : Type 0 where
  unplayable : Request
  asks : Call → Request

pub record Record : Type 0 where
  pub kind : ℕ
  pub request : Request

abbrev pub record_of : ℕ → Request → Record
record_of k r = record { kind = k; request = r }

-- "kind (1 launch, 2 start, 3 finishing start, 4 Back, 5 look)"; "9: player only: unknown kind, or a cut record". Launch names an
-- edition: "in a player's launch record the screen byte does" (02, request 4)
unfoldable pub request_of : ℕ → ℕ → ℕ → Request
request_of kind b w =
    if eqb kind 1 then asks (launch b) else
    if eqb kind 2 then asks (start b w) else
    if eqb kind 3 then asks (finishing_start b w) else
    if eqb kind 4 then asks back else
    if eqb kind 5 then asks look else unplayable

-- "2 start, 3 finishing start"
abbrev pub is_start : ℕ → Bool
is_start kind = eqb kind 2 || eqb kind 3

-- "flag word high byte first"
abbrev pub word_of : ℕ → ℕ → ℕ → ℕ → ℕ
word_of w₃ w₂ w₁ w₀ = 0x1000000 * w₃ + 0x10000 * w₂ + 0x100 * w₁ + w₀

-- "records of 6 bytes: kind .., screen, flag word high byte first; kinds 1, 4, 5 ignore the last five", but for the
-- edition of kind 1. A last record of fewer bytes is cut.
unfoldable pub records_in : List ℕ → List Record
records_in [] = []
records_in (k ∷ []) = record_of k unplayable ∷ []
records_in (k ∷ b ∷ []) = record_of k unplayable ∷ []
records_in (k ∷ b ∷ w₃ ∷ []) = record_of k unplayable ∷ []
records_in (k ∷ b ∷ w₃ ∷ w₂ ∷ []) = record_of k unplayable ∷ []
records_in (k ∷ b ∷ w₃ ∷ w₂ ∷ w₁ ∷ []) = record_of k unplayable ∷ []
records_in (k ∷ b ∷ w₃ ∷ w₂ ∷ w₁ ∷ w₀ ∷ rest) = record_of k (request_of k b (word_of w₃ w₂ w₁ w₀)) ∷ records_in rest

-- "Refusal 9 comes before all checks of the call, prints the kind byte, 9 and a refusal's zeros, and reading goes on."
unfoldable pub outcome_of : List ℕ → State ℕ → Request → Outcome
outcome_of tb s unplayable = outcome s (refused 9)
outcome_of tb s (asks c) = call tb s c

-- "One line a record": the text of a list of records, and the session after it
unfoldable pub text_of : List ℕ → State ℕ → List Record → List ℕ
text_of tb s [] = []
text_of tb s (r ∷ rs) =
    line_of r.kind (outcome_of tb s r.request).answer ++ text_of tb (outcome_of tb s r.request).session rs

unfoldable pub session_after : List ℕ → State ℕ → List Record → State ℕ
session_after tb s [] = s
session_after tb s (r ∷ rs) = session_after tb (outcome_of tb s r.request).session rs

-- ---- the whole input

-- "a table, then records": the table is as long as its N says
abbrev pub table_in : List ℕ → List ℕ
table_in input = take (2 + 2 * size_of input) input

abbrev pub record_bytes : List ℕ → List ℕ
record_bytes input = drop (2 + 2 * size_of input) input

-- not "N bad or the table cut"
unfoldable pub starts_with_table : List ℕ → Bool
starts_with_table input =
    (leb 1 (size_of input) && leb (size_of input) most_screens) && leb (2 + 2 * size_of input) (length input)

-- "With N bad or the table cut it prints 0 and the answer of refusal 1, `0 1 0 0 0 0 0`, and stops." With the numbers that the
-- answer gained the line has three zeros more.
unfoldable pub player_text : List ℕ → List ℕ
player_text input =
    if starts_with_table input then text_of (table_in input) fresh (records_in (record_bytes input)) else line_of 0 (refused 1)
