-- Document 01, "Calls" and "Refusals": each call, its checks, the session and the answer that it gives. Launch names an edition
-- (document 02, request 4), and a start may leave no history (request 7).
use Rattle.std.specs.Prelude.{ℕ, zero, suc, pred, ◌+◌, Bool, true, false, not, ◌&&◌, ◌||◌, List, [], ◌∷◌, ◌++◌, map, ltb, eqb, length, drop, if◌then◌else◌}
use Rattle.model.specs.declared.Answer.{Answer}
use Rattle.model.specs.declared.Choice.{Choice}
use Rattle.model.specs.declared.Change.{Change}
use Rattle.model.specs.declared.Effect.{Effect}
use Rattle.model.specs.declared.Flags.{Flags}
use Rattle.model.specs.declared.Rule.{Rule}
use Rattle.model.specs.Lists.{is_empty, is_place, find, on_first}
use Rattle.model.specs.Refusals.{Check, check, refusal}
use Rattle.model.specs.Table.{size_of, main_screen, table_checks}
use Rattle.model.specs.Session.{Stack, State, stack, state, set_no_history, task_at, front, height, count, most_tasks, most_height, is_edition, sound}
use Rattle.model.specs.Flags.{flags_of, has_other_bit}
use Rattle.model.specs.Search.{place_of}
use Rattle.model.specs.Rules.{is_r7, choose}
use Rattle.model.specs.Effects.{effect_of, change_front, carry_out, close}
use Rattle.model.specs.Counts.{created_by, closed_by}
use Rattle.model.specs.Answers.{Outcome, outcome, look_at, with_closed, settle}
use Rattle.model.specs.Image.{image, image_checks, session_in}

-- "with any screen, flag word or image bytes"; a launch with any edition
pub data Call : Type 0 where
  launch : ℕ → Call
  start finishing_start : ℕ → ℕ → Call
  back look : Call
  restore : List ℕ → Call

-- ---- start

-- the choice of a start of the screen b with the flag word w
abbrev pub chosen : List ℕ → State ℕ → ℕ → ℕ → Choice
chosen tb s b w = choose tb s b (flags_of w)

-- what a rule does in the session s
abbrev pub effect_at : State ℕ → Rule → Effect
effect_at s r = effect_of s.edition s.main r

-- what the rule chosen does
abbrev pub effect_in : State ℕ → Choice → Effect
effect_in s c = effect_at s c.rule

-- ---- finishing start

-- a screen with or without the mark. The mark is 01's own term.
pub record Marked : Type 0 where
  pub screen : ℕ
  pub mark : Bool

abbrev pub unmarked : ℕ → Marked
unmarked x = record { screen = x; mark = false }

abbrev pub mark_top : List Marked → List Marked
mark_top xs = on_first (λ x. record { screen = x.screen; mark = true }) xs

module _ {A B : Type 0} (f : A → B) where
  -- each screen replaced by what f makes of it
  abbrev pub map_screens : Stack A → Stack B
  map_screens t = stack t.root (map f t.screens)

  unfoldable pub map_state : State A → State B
  map_state s = state (map map_screens s.tasks) s.main s.edition s.no_history

-- "mark the front screen"
unfoldable pub mark_front : State ℕ → State Marked
mark_front s = change_front mark_top (map_state unmarked s)

-- "start B": "A mark travels with its screen; .. the pushed B is unmarked." The effect d is that of the rule chosen, and p the
-- place of the task found.
abbrev pub start_marked : Effect → ℕ → ℕ → State Marked → State Marked
start_marked d p b s = carry_out (λ x. eqb b x.screen) b (unmarked b) d p s

-- the place of the marked screen in a task, counted from the top, or 0
abbrev pub place_of_mark : Stack Marked → ℕ
place_of_mark t = find (λ x. x.mark) t.screens

-- the place of the task that holds the marked screen, or 0 where it is gone
abbrev pub marked_task : State Marked → ℕ
marked_task s = find (λ t. is_place (place_of_mark t)) s.tasks

-- the marked screen still stands
abbrev pub mark_stands : State Marked → Bool
mark_stands s = is_place (marked_task s)

-- how many screens stand above the marked one in that task
abbrev pub above_marked : State Marked → ℕ
above_marked s = pred (place_of_mark (task_at s.tasks (marked_task s)))

-- "then remove the marked screen if it still stands, as Back would in its task"
unfoldable pub close_marked : State Marked → State Marked
close_marked s = if mark_stands s then close (marked_task s) (above_marked s) s else s

-- "Finishing start: mark the front screen, start B, then remove the marked screen if it still stands, as Back would
-- in its task. A mark travels with its screen; an emptied screen is gone, and the pushed B is unmarked."
abbrev pub finished_at : Effect → ℕ → ℕ → State ℕ → State ℕ
finished_at d p b s = map_state (λ x. x.screen) (close_marked (start_marked d p b (mark_front s)))

-- ---- the No-History mark, and a start whole (document 02, request 7)

-- the caller of a start closes: of a finishing one; and "A plain start from a marked front is done as a finishing start (request
-- 1's rule, then the removal), save where R7 fits". h is the mark before it, and r its rule.
unfoldable pub caller_closes : Bool → ℕ → Rule → Bool
caller_closes finishing h r = finishing || (eqb h 1 && not (is_r7 r))

-- the effect of a rule, and then the removal where the caller closes
abbrev pub started_with : Bool → Effect → ℕ → ℕ → State ℕ → State ℕ
started_with true d p b s = finished_at d p b s
started_with false d p b s = carry_out (eqb b) b b d p s

-- the mark after a start, by the mark h before it, the No-History flag, the rule and its effect: "the front screen was pushed or
-- made new by a start, plain or finishing, with this flag". Where R7 fits a plain start, "nothing changes, the mark included".
unfoldable pub no_history_after : Bool → ℕ → Bool → Rule → Effect → ℕ
no_history_after finishing h noh r d = if not finishing && is_r7 r then h else if noh then created_by d else 0

-- a start of b, or a finishing one, with the flags f by the rule r; p is the place of the task found
abbrev pub start_by : Bool → Flags → Rule → ℕ → ℕ → State ℕ → State ℕ
start_by finishing f r p b s =
    set_no_history (no_history_after finishing s.no_history f.noh r (effect_at s r))
    (started_with (caller_closes finishing s.no_history r) (effect_at s r) p b s)

-- "Start of B", or a finishing one: "The first rule that fits is used."
unfoldable pub started : Bool → List ℕ → State ℕ → ℕ → ℕ → State ℕ
started finishing tb s b w = start_by finishing (flags_of w) (chosen tb s b w).rule (place_of (chosen tb s b w).found) b s

-- ---- launch and Back

-- "Launch names one, 0 standing for 8" (02, request 4)
abbrev pub edition_named : ℕ → ℕ
edition_named zero = 8
edition_named (suc k) = suc k

-- "Launch: on an empty session, one task whose root and only screen is the main screen; m = 1." No start made it: no mark.
unfoldable pub launched : List ℕ → ℕ → State ℕ
launched tb e = state (stack (main_screen tb) (main_screen tb ∷ []) ∷ []) 1 (edition_named e) 0

-- "Back: removes the front screen; a task left empty goes, and m follows its task or becomes 0."
unfoldable pub backed : State ℕ → State ℕ
backed s = close 1 0 s

-- ---- checks

abbrev pub makes_task : Effect → Bool
makes_task Effect.New = true
makes_task (Effect.InFront c) = false
makes_task (Effect.MoveAnd c) = false

abbrev pub is_push : Change → Bool
is_push Change.Keep = false
is_push Change.Renew = false
is_push Change.Clear = false
is_push Change.Lift = false
is_push Change.Push = true

-- a push "(not after empty)" onto a task of the greatest height; p is the place of the task found
abbrev pub overfills : Effect → ℕ → State ℕ → Bool
overfills Effect.New p s = false
overfills (Effect.InFront c) p s = is_push c && eqb (height (front s)) most_height
overfills (Effect.MoveAnd c) p s = is_push c && eqb (height (task_at s.tasks p)) most_height

-- "23: a new task is needed and n = 16", "24: a push onto a task of 32 (not after empty)"
abbrev pub room_checks : Choice → State ℕ → List Check
room_checks c s =
    check 23 (makes_task (effect_in s c) && eqb (count s) most_tasks)
    ∷ check 24 (overfills (effect_in s c) (place_of c.found) s)
    ∷ []

-- "Start checks 3, 4, 21, then 23 or 24." "3: start: B not below N"; of 01's "4: start: a bit outside the six", "4 is now a bit
-- outside the seven" (02, request 7); "21: start, Back: empty"
abbrev pub start_checks : List ℕ → State ℕ → ℕ → ℕ → List Check
start_checks tb s b w =
    check 3 (not (ltb b (size_of tb))) ∷ check 4 (has_other_bit w) ∷ check 21 (is_empty s.tasks)
    ∷ room_checks (chosen tb s b w) s

-- "22: launch: not empty"; "launch gives 30, after 22, for another edition" (02, request 4), which is not 0, 6, 7 or 8
abbrev pub launch_checks : State ℕ → ℕ → List Check
launch_checks s e = check 22 (not (is_empty s.tasks)) ∷ check 30 (not (is_edition (edition_named e))) ∷ []

-- "those named for the call". "A finishing start has the same checks, made before the removal."
unfoldable pub own_checks : List ℕ → State ℕ → Call → List Check
own_checks tb s (launch e) = launch_checks s e
own_checks tb s (start b w) = start_checks tb s b w
own_checks tb s (finishing_start b w) = start_checks tb s b w
own_checks tb s back = check 21 (is_empty s.tasks) ∷ []
own_checks tb s look = []
own_checks tb s (restore bytes) = image_checks tb bytes

-- "The checks go in the order 1, 2, 20, then those named for the call." "20: the session is not sound under the table"
abbrev pub checks_in : List ℕ → Bool → List Check → List Check
checks_in tb is_sound own = table_checks tb ++ check 20 (not is_sound) ∷ own

-- ---- screens created and closed (document 02, request 2)

-- of a start by the rule chosen
abbrev pub created_by_choice : Choice → State ℕ → ℕ
created_by_choice c s = created_by (effect_in s c)

abbrev pub closed_by_choice : Choice → ℕ → State ℕ → ℕ
closed_by_choice c b s = closed_by (eqb b) (effect_in s c) (place_of c.found) s

-- the marked screen, "if it still stands"
abbrev pub closed_marked : State Marked → ℕ
closed_marked s = if mark_stands s then 1 else 0

abbrev pub closed_by_finish : Choice → ℕ → State ℕ → ℕ
closed_by_finish c b s = closed_by_choice c b s + closed_marked (start_marked (effect_in s c) (place_of c.found) b (mark_front s))

-- of a start, where the caller closes or does not
abbrev pub closed_with : Bool → Choice → ℕ → State ℕ → ℕ
closed_with true c b s = closed_by_finish c b s
closed_with false c b s = closed_by_choice c b s

-- of a start by the rule chosen, or a finishing one
abbrev pub closed_by_start : Bool → Choice → ℕ → State ℕ → ℕ
closed_by_start finishing c b s = closed_with (caller_closes finishing s.no_history c.rule) c b s

-- the screens that a call creates where it is not refused: "one for launch, each new task and each push"
unfoldable pub created_of : List ℕ → State ℕ → Call → ℕ
created_of tb s (launch e) = 1
created_of tb s (start b w) = created_by_choice (chosen tb s b w) s
created_of tb s (finishing_start b w) = created_by_choice (chosen tb s b w) s
created_of tb s back = 0
created_of tb s look = 0
created_of tb s (restore bytes) = 0

-- the screens that it closes: "screens removed by this call, 0 when refused and for a restore"
unfoldable pub closed_of : List ℕ → State ℕ → Call → ℕ
closed_of tb s (launch e) = 0
closed_of tb s (start b w) = closed_by_start false (chosen tb s b w) b s
closed_of tb s (finishing_start b w) = closed_by_start true (chosen tb s b w) b s
closed_of tb s back = 1
closed_of tb s look = 0
closed_of tb s (restore bytes) = 0

-- ---- calls

-- the session that a call makes where it is not refused. "Look: changes nothing."
unfoldable pub done : List ℕ → State ℕ → Call → State ℕ
done tb s (launch e) = launched tb e
done tb s (start b w) = started false tb s b w
done tb s (finishing_start b w) = started true tb s b w
done tb s back = backed s
done tb s look = s
done tb s (restore bytes) = session_in bytes

unfoldable pub refusal_of : List ℕ → State ℕ → Call → ℕ
refusal_of tb s c = refusal (checks_in tb (sound tb s) (own_checks tb s c))

-- the answer to a call that is not refused: "front screen, front root, front height, n, m, after the call", "screens removed by
-- this call", the edition and the mark
abbrev pub answer_to : List ℕ → State ℕ → Call → Answer
answer_to tb s c = with_closed (closed_of tb s c) (look_at (done tb s c))

-- the session and the answer that a call gives, refused or not
unfoldable pub call : List ℕ → State ℕ → Call → Outcome
call tb s c = settle outcome (refusal_of tb s c) s (done tb s c) (answer_to tb s c)

-- ---- save

-- what save gives: "its number and length 0" or "0 and its length"; and the buffer
pub record Saved : Type 0 where
  pub refusal : ℕ
  pub length : ℕ
  pub buffer : List ℕ

-- "8: save: buffer shorter than the image"
abbrev pub save_checks : State ℕ → List ℕ → List Check
save_checks s buffer = check 8 (ltb (length buffer) (length (image s))) ∷ []

-- "Save writes it at the buffer's start, leaves the rest, and returns 0 and its length."
abbrev pub settle_save : ℕ → State ℕ → List ℕ → Saved
settle_save zero s buffer =
    record { refusal = 0; length = length (image s); buffer = image s ++ drop (length (image s)) buffer }
settle_save (suc k) s buffer = record { refusal = suc k; length = 0; buffer = buffer }
