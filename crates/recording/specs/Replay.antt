-- What a list of calls in bytes leaves, made from a fresh session.
use Rattle.std.specs.Prelude.{ℕ, ◌≤◌, ◌≡◌, ◌↔◌, Bool, true, List, eqb, length, if◌then◌else◌}
use Rattle.model.specs.Lists.{All}
use Rattle.model.specs.Table.{table_refusal}
use Rattle.model.specs.Session.{State, fresh}
use Rattle.model.specs.Image.{longest_image}
use Rattle.model.specs.Calls.{Call}
use Rattle.model.specs.Histories.{after, answers, IsByte, Passable, AnswerAlike, by_rules}
use Rattle.session.specs.declared.Session.{Session}
use Rattle.session.specs.Stored.{fresh_session, hold}
use Rattle.calls.specs.StoredCalls.{by_program}
use Rattle.navigator.specs.Promise3.{reached, bytes_saved}
use Rattle.recording.specs.CallBytes.{calls_in}

-- the session after a list, by document 01's rules
abbrev pub ending : List ℕ → List ℕ → State ℕ
ending tb bytes = after (by_rules tb) fresh (calls_in bytes)

-- the same as it is stored; where the table is refused, a fresh session
unfoldable pub replayed : List ℕ → List ℕ → Session
replayed tb bytes = if eqb (table_refusal tb) 0 then hold (ending tb bytes) else fresh_session

-- "every list of launches, starts, finishing starts, Backs, looks and restores (refused ones included, whatever bytes a
-- restore brings)": for each there are bytes that end as it does on the program, with the same answers along it
abbrev pub EveryList : Type 0
EveryList =
    (ks : List Call) → All Passable ks → (bytes : List ℕ) × All IsByte bytes
    × ((tb : List ℕ) → table_refusal tb ≡ 0
    → (replayed tb bytes ≡ reached tb ks)
    × (answers (by_program tb) fresh_session (calls_in bytes) ≡ answers (by_program tb) fresh_session ks))

-- ---- two lists

-- "every list of later launches, starts, finishing starts, Backs and looks, refused ones included, gets equal answers
-- from both", on the program
abbrev pub EndAlike : List ℕ → List ℕ → List ℕ → Type 0
EndAlike tb first second = AnswerAlike (by_program tb) (replayed tb first) (replayed tb second)

-- alike tells whether "the sessions after them have equal images": those that save writes, into whatever buffers that are long
-- enough
abbrev pub TellsImages : List ℕ → List ℕ → List ℕ → Bool → Type 0
TellsImages tb first second alike =
    (buffer buffer' : List ℕ) → longest_image ≤ length buffer → longest_image ≤ length buffer'
    → (alike ≡ true) ↔ (bytes_saved tb (replayed tb first) buffer ≡ bytes_saved tb (replayed tb second) buffer')
