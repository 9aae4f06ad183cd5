-- Document 02, request 1, "Agents want the reason under each start": the player's text with a line under each start. How the line
-- looks is ours; the document does not say.
use Rattle.std.specs.Prelude.{ℕ, ◌+◌, ◌*◌, Bool, true, false, List, [], ◌∷◌, ◌++◌, if◌then◌else◌}
use Rattle.model.specs.declared.Reason.{Reason}
use Rattle.model.specs.Texts.{ascii}
use Rattle.model.specs.Session.{State, fresh}
use Rattle.model.specs.Answers.{refused}
use Rattle.model.specs.Calls.{launch, start, finishing_start, back, look, restore}
use Rattle.model.specs.Player.{decimal, longest_line, Record, Request, unplayable, asks, is_start, line_of, outcome_of, records_in, table_in, record_bytes, starts_with_table}
use Rattle.model.specs.Reasons.{no_reason, why}
use Rattle.model.specs.Sentences.{sentence_of, longest_sentence}

-- the reason of what a record of a start asks for; of a cut one it is 9 and three zeros. Other calls have none.
unfoldable pub reason_for : List ℕ → State ℕ → Request → Reason
reason_for tb s unplayable = no_reason 9
reason_for tb s (asks (start b w)) = why tb s b w
reason_for tb s (asks (finishing_start b w)) = why tb s b w
reason_for tb s (asks (launch e)) = no_reason 0
reason_for tb s (asks back) = no_reason 0
reason_for tb s (asks look) = no_reason 0
reason_for tb s (asks (restore bytes)) = no_reason 0

-- two spaces, then the four numbers
abbrev pub four_numbers : Reason → List ℕ
four_numbers r =
    ascii "  " ++ decimal r.refusal ++ ascii " " ++ decimal r.rule ++ ascii " " ++ decimal r.place ++ ascii " " ++ decimal r.found

-- one line; `--words` adds the sentence
unfoldable pub reason_line : Bool → Reason → List ℕ
reason_line false r = four_numbers r ++ ascii "\n"
reason_line true r = four_numbers r ++ ascii " " ++ sentence_of r ++ ascii "\n"

-- no line under a start is longer
abbrev pub longest_reason : ℕ
longest_reason = 2 + 4 * 4 + longest_sentence + 1

-- what stands under the line of a record: one line under that of a start or a finishing start, and none under that of another or
-- an unknown kind
abbrev pub under_record : Bool → List ℕ → State ℕ → Record → List ℕ
under_record words tb s r = if is_start r.kind then reason_line words (reason_for tb s r.request) else []

-- each line of the player as it is, and what stands under it. The reason is that of the session before the record.
unfoldable pub explained_text : Bool → List ℕ → State ℕ → List Record → List ℕ
explained_text words tb s [] = []
explained_text words tb s (r ∷ rs) =
    line_of r.kind (outcome_of tb s r.request).answer ++ under_record words tb s r
    ++ explained_text words tb (outcome_of tb s r.request).session rs

-- the bytes of the longest line and of what stands under it
abbrev pub longest_explained : ℕ
longest_explained = longest_line + longest_reason

-- the whole input: of a table on which the player stops, the player's one line
unfoldable pub explain_text : Bool → List ℕ → List ℕ
explain_text words input =
    if starts_with_table input then explained_text words (table_in input) fresh (records_in (record_bytes input)) else line_of 0 (refused 1)
