-- Calls on stored sessions: what the program gives for each, refused or not.
use Rattle.std.specs.Prelude.{ℕ, ◌≡◌, Bool, true, false, List}
use Rattle.model.specs.declared.Answer.{Answer}
use Rattle.model.specs.Refusals.{refusal}
use Rattle.model.specs.Table.{table_refusal}
use Rattle.model.specs.Answers.{refused, settle}
use Rattle.model.specs.Calls.{Call, start, finishing_start, checks_in, own_checks, done, answer_to, created_of}
use Rattle.model.specs.Balance.{if_accepted}
use Rattle.model.specs.Player.{Request, unplayable, asks}
use Rattle.model.specs.Histories.{Machine}
use Rattle.session.specs.declared.Session.{Session}
use Rattle.session.specs.Stored.{view, hold, sound_stored}
use Rattle.calls.specs.declared.Reply.{Reply}

abbrev pub reply : Session → Answer → Reply
reply c a = record { session = c; answer = a }

-- a finishing start, or a start
abbrev pub start_of : Bool → ℕ → ℕ → Call
start_of true b w = finishing_start b w
start_of false b w = start b w

-- "The checks go in the order 1, 2, 20, then those named for the call."
unfoldable pub refusal_stored : List ℕ → Session → Call → ℕ
refusal_stored tb c k = refusal (checks_in tb (sound_stored tb c) (own_checks tb (view c) k))

-- what a call gives with the refusal n (0 if none)
abbrev pub given_by : List ℕ → Session → Call → ℕ → Reply
given_by tb c k n = settle reply n c (hold (done tb (view c) k)) (answer_to tb (view c) k)

unfoldable pub call_stored : List ℕ → Session → Call → Reply
call_stored tb c k = given_by tb c k (refusal_stored tb c k)

-- what a record gives on a stored session: "Refusal 9 comes before all checks of the call"
abbrev pub reply_stored : List ℕ → Session → Request → Reply
reply_stored tb c unplayable = reply c (refused 9)
reply_stored tb c (asks k) = call_stored tb c k

-- the screens that it creates
abbrev pub created_stored : List ℕ → Session → Request → ℕ
created_stored tb c unplayable = 0
created_stored tb c (asks k) = if_accepted (refusal_stored tb c k) (created_of tb (view c) k)

-- the program's calls under the table tb, one after the other (document 01, "Lists in demand 3")
abbrev pub by_program : List ℕ → Machine Session Call Answer
by_program tb = record { next = λ c k. (call_stored tb c k).session; answer = λ c k. (call_stored tb c k).answer }

-- under a good table a sound session stays sound
abbrev pub KeepsSound : List ℕ → Session → Session → Type 0
KeepsSound tb c c' = table_refusal tb ≡ 0 → sound_stored tb c ≡ true → sound_stored tb c' ≡ true
