-- Document 01, "Stacks to prove", in one table with one theorem, with the screens that each call closes; the player's example, byte
-- for byte; and a restore that counts no screen. All are proved by computing: every definition is unfolded.
use Prim.Native.Nat.{ℕ, ◌+◌}
use mathlib.Core.Path.{◌≡◌, refl}
use mathlib.Core.List.{List, [], ◌∷◌, ◌++◌, map}
use lib.ListN.{replicate}
use Rattle.model.specs.Texts.{ascii}
use Rattle.model.specs.Refusals.{refusal}
use Rattle.model.specs.Table.{mode_of, affinity_of, is_single_top, is_single_task, is_single_instance, roots_once, table_shaped, table_filled}
use Rattle.model.specs.Session.{State, stack, state, on_edition, set_no_history, fresh, screens_in, height_fits, screens_known, instance_alone, task_sound, roots_differ, main_sound, is_edition, edition_sound, no_history_sound, sound}
use Rattle.model.specs.Flags.{NTK, STP, MTK, CTP, RTF, CTK, NOH, flags_of, has_other_bit}
use Rattle.model.specs.Search.{has_root, akin, has_affinity, seek_root, seek_affinity, seeks_by_root, seek, holds}
use Rattle.model.specs.Rules.{rules_of, is_single, is_apart, group_of, sought_by, fits, choose_in, choose}
use Rattle.model.specs.Effects.{reordered, effect_of, main_moved, main_without, move, changed, change_front, put_new, carry_out, close}
use Rattle.model.specs.Counts.{created_in, created_by, closed_in, closed_by}
use Rattle.model.specs.Answers.{look_at}
use Rattle.model.specs.Image.{image, image_shaped, read_tasks, image_readable, session_in}
use Rattle.model.specs.Calls.{Call, launch, start, finishing_start, back, look, restore, caller_closes, no_history_after, started, map_state, mark_front, close_marked, launched, backed, own_checks, created_of, closed_of, done, refusal_of, call}
use Rattle.model.specs.Histories.{after, answers, along}
use Rattle.model.specs.Balance.{created_along, closed_along, standing_after}
use Rattle.model.specs.Player.{decimal, line_text, line_of, request_of, records_in, outcome_of, text_of, starts_with_table, player_text}

unfoldable computing : Unit {0}
unfolding refusal mode_of affinity_of is_single_top is_single_task is_single_instance roots_once table_shaped table_filled height_fits screens_known instance_alone task_sound roots_differ main_sound is_edition edition_sound no_history_sound sound flags_of has_other_bit has_root akin has_affinity seek_root seek_affinity seeks_by_root seek holds rules_of is_single is_apart group_of sought_by fits choose_in choose reordered effect_of main_moved main_without move changed change_front put_new carry_out close look_at image image_shaped read_tasks image_readable session_in caller_closes no_history_after started map_state mark_front close_marked launched backed own_checks done refusal_of call screens_in created_in created_by closed_in closed_by created_of closed_of after answers along decimal line_text line_of request_of records_in outcome_of text_of starts_with_table player_text
computing = tt

-- "Table T, hex: 06 00 00 01 00 01 01 01 02 02 03 01 00 02"
abbrev T : List ℕ
T = 0x06 ∷ 0x00 ∷ 0x00 ∷ 0x01 ∷ 0x00 ∷ 0x01 ∷ 0x01 ∷ 0x01 ∷ 0x02 ∷ 0x02 ∷ 0x03 ∷ 0x01 ∷ 0x00 ∷ 0x02 ∷ []

-- what a case looks at: the refusal of a call, the screens that it closed and the session after it; or the bytes of an image
data Result : Type 0 where
  ends : ℕ → ℕ → State ℕ → Result
  bytes : List ℕ → Result

-- one row of the table: what the definitions give, and what 01 says
record Case : Type 0 where
  got : Result
  said : Result

abbrev end_of : State ℕ → Call → Result
end_of s c = ends (call T s c).answer.refusal (call T s c).answer.closed (call T s c).session

-- a call that is accepted and closes k screens, or none; one that is refused and keeps the session; an image
abbrev closing : ℕ → State ℕ → Call → State ℕ → Case
closing k s c s' = record { got = end_of s c; said = ends 0 k s' }

abbrev accepted : State ℕ → Call → State ℕ → Case
accepted s c s' = closing 0 s c s'

abbrev refused_with : ℕ → State ℕ → Call → Case
refused_with k s c = record { got = end_of s c; said = ends k 0 s }

abbrev has_image : State ℕ → List ℕ → Case
has_image s l = record { got = bytes (image s); said = bytes l }

-- 0:[2,1,0], m 1
abbrev three : State ℕ
three = state (stack 0 (2 ∷ 1 ∷ 0 ∷ []) ∷ []) 1 8 0

-- 4:[4] 3:[3] 0:[1,0], m 3
abbrev instance_in_front : State ℕ
instance_in_front = state (stack 4 (4 ∷ []) ∷ stack 3 (3 ∷ []) ∷ stack 0 (1 ∷ 0 ∷ []) ∷ []) 3 8 0

-- 5:[1,5] 0:[0], m 2
abbrev root_in_front : State ℕ
root_in_front = state (stack 5 (1 ∷ 5 ∷ []) ∷ stack 0 (0 ∷ []) ∷ []) 2 8 0

-- 3:[3] 0:[0], m 2
abbrev single_task_in_front : State ℕ
single_task_in_front = state (stack 3 (3 ∷ []) ∷ stack 0 (0 ∷ []) ∷ []) 2 8 0

-- 0:[0], m 1
abbrev one : State ℕ
one = state (stack 0 (0 ∷ []) ∷ []) 1 8 0

-- 5:[5] 3:[3] 0:[0], m 3; the screens 5 and 3 have affinity 2
abbrev same_affinity : State ℕ
same_affinity = state (stack 5 (5 ∷ []) ∷ stack 3 (3 ∷ []) ∷ stack 0 (0 ∷ []) ∷ []) 3 8 0

-- the session in another edition
abbrev of : ℕ → State ℕ → State ℕ
of e s = on_edition (λ _. e) s

-- the session with the No-History mark
abbrev marked : State ℕ → State ℕ
marked s = set_no_history 1 s

-- a task whose root is the main screen 0, with screen 0 below n copies of screen 1
abbrev tall : ℕ → State ℕ
tall n = state (stack 0 (replicate n 1 ++ 0 ∷ []) ∷ []) 1 8 0

-- 16 tasks of the standard screen 0
abbrev crowd : ℕ → State ℕ
crowd n = state (replicate n (stack 0 (0 ∷ []))) 0 8 0

abbrev cases : List Case
cases =
    -- P1, P2 in both its forms, P3
    accepted three (start 1 RTF) (state (stack 0 (1 ∷ 2 ∷ 0 ∷ []) ∷ []) 1 8 0)
    ∷ closing 1 three (start 1 CTP) (state (stack 0 (1 ∷ 0 ∷ []) ∷ []) 1 8 0)
    ∷ closing 1 three (start 1 (CTP + RTF)) (state (stack 0 (1 ∷ 0 ∷ []) ∷ []) 1 8 0)
    ∷ accepted three (start 2 0) three
    -- P4, P5
    ∷ accepted instance_in_front (start 1 0) (state (stack 0 (1 ∷ 1 ∷ 0 ∷ []) ∷ stack 4 (4 ∷ []) ∷ stack 3 (3 ∷ []) ∷ []) 1 8 0)
    ∷ accepted instance_in_front (start 1 STP) (state (stack 0 (1 ∷ 0 ∷ []) ∷ stack 4 (4 ∷ []) ∷ stack 3 (3 ∷ []) ∷ []) 1 8 0)
    -- P6, P7
    ∷ accepted root_in_front (start 5 NTK) root_in_front
    ∷ accepted single_task_in_front (start 3 (NTK + MTK)) single_task_in_front
    -- P8, P9
    ∷ closing 1 one (finishing_start 0 (NTK + CTK)) one
    ∷ closing 1 one (finishing_start 0 (NTK + STP)) fresh
    -- P10
    ∷ has_image (state (stack 3 (3 ∷ []) ∷ stack 0 (1 ∷ 0 ∷ []) ∷ []) 2 8 0)
    (0x03 ∷ 0x01 ∷ 0x03 ∷ 0x00 ∷ 0x02 ∷ 0x01 ∷ 0x00 ∷ 0x00 ∷ 0x07 ∷ 0x02 ∷ 0x02 ∷ 0x08 ∷ 0x42 ∷ [])
    -- "A task of 31 takes a push, one of 32 gives 24. RTF on a screen inside a task of 32 is accepted."
    ∷ accepted (tall 30) (start 1 0) (tall 31)
    ∷ refused_with 24 (tall 31) (start 1 0)
    ∷ accepted (tall 31) (start 0 RTF) (state (stack 0 (0 ∷ replicate 31 1) ∷ []) 1 8 0)
    -- "23: a new task is needed and n = 16": 15 tasks take one, 16 do not
    ∷ accepted (crowd 15) (start 0 (NTK + MTK)) (crowd 16)
    ∷ refused_with 23 (crowd 16) (start 0 (NTK + MTK))
    -- "testing in R15 for the main task by comparing the place found before the move with m after it": the task found
    -- is at 2, the main task at 1
    ∷ accepted (state (stack 0 (0 ∷ []) ∷ stack 5 (1 ∷ 5 ∷ []) ∷ []) 1 8 0) (start 5 NTK) root_in_front
    -- screens closed: above the topmost of two copies; by a finishing start, the caller, which a lift leaves and a clear may
    -- have closed; all of an emptied task of 32, also a B, and the caller
    ∷ closing 1 (state (stack 0 (2 ∷ 1 ∷ 2 ∷ 1 ∷ 0 ∷ []) ∷ []) 1 8 0) (start 1 CTP) (state (stack 0 (1 ∷ 2 ∷ 1 ∷ 0 ∷ []) ∷ []) 1 8 0)
    ∷ closing 1 three (finishing_start 1 RTF) (state (stack 0 (1 ∷ 0 ∷ []) ∷ []) 1 8 0)
    ∷ closing 1 three (finishing_start 1 CTP) (state (stack 0 (1 ∷ 0 ∷ []) ∷ []) 1 8 0)
    ∷ closing 32 (tall 31) (start 0 (NTK + CTK)) one
    ∷ closing 33 (state (stack 3 (3 ∷ []) ∷ (tall 31).tasks) 2 8 0) (finishing_start 0 (NTK + CTK)) one
    -- editions (02, request 4): launch names one, 0 stands for 8, 22 comes before 30; an emptied session has edition 8
    ∷ accepted fresh (launch 0) one
    ∷ accepted fresh (launch 6) (of 6 one)
    ∷ refused_with 30 fresh (launch 5)
    ∷ refused_with 30 fresh (launch 9)
    ∷ refused_with 22 one (launch 9)
    ∷ closing 1 (of 6 one) back fresh
    ∷ closing 1 (of 7 one) (finishing_start 0 (NTK + STP)) fresh
    -- edition 7: R9 empties the main task, and lifts in any other; the marked screen is gone, and a task of 32 takes the push
    ∷ closing 3 (of 7 three) (start 1 RTF) (of 7 (state (stack 0 (1 ∷ []) ∷ []) 1 8 0))
    ∷ closing 3 (of 7 three) (finishing_start 1 RTF) (of 7 (state (stack 0 (1 ∷ []) ∷ []) 1 8 0))
    ∷ closing 32 (of 7 (tall 31)) (start 0 RTF) (of 7 one)
    ∷ accepted (of 7 (state three.tasks 0 8 0)) (start 1 RTF) (of 7 (state (stack 0 (1 ∷ 2 ∷ 0 ∷ []) ∷ []) 0 8 0))
    -- edition 6: a single-task screen with an affinity is sought by affinity alone, and the first task of that affinity is found
    ∷ accepted (of 6 same_affinity) (start 3 NTK) (of 6 (state (stack 5 (3 ∷ 5 ∷ []) ∷ stack 3 (3 ∷ []) ∷ stack 0 (0 ∷ []) ∷ []) 3 8 0))
    ∷ accepted same_affinity (start 3 NTK) (state (stack 3 (3 ∷ []) ∷ stack 5 (5 ∷ []) ∷ stack 0 (0 ∷ []) ∷ []) 3 8 0)
    -- No-History (02, request 7): a push, a new task and an emptied task set the mark; clear to B and a lift do not
    ∷ accepted one (start 1 NOH) (marked (state (stack 0 (1 ∷ 0 ∷ []) ∷ []) 1 8 0))
    ∷ accepted one (start 3 NOH) (marked single_task_in_front)
    ∷ closing 3 (of 7 three) (start 1 (RTF + NOH)) (marked (of 7 (state (stack 0 (1 ∷ []) ∷ []) 1 8 0)))
    ∷ closing 1 three (start 1 (CTP + NOH)) (state (stack 0 (1 ∷ 0 ∷ []) ∷ []) 1 8 0)
    ∷ accepted three (start 1 (RTF + NOH)) (state (stack 0 (1 ∷ 2 ∷ 0 ∷ []) ∷ []) 1 8 0)
    -- a plain start from a marked front closes it, by a push, a lift, a move on itself; the session may become empty
    ∷ closing 1 (marked three) (start 1 0) (state (stack 0 (1 ∷ 1 ∷ 0 ∷ []) ∷ []) 1 8 0)
    ∷ closing 1 (marked three) (start 1 NOH) (marked (state (stack 0 (1 ∷ 1 ∷ 0 ∷ []) ∷ []) 1 8 0))
    ∷ closing 1 (marked three) (start 1 RTF) (state (stack 0 (1 ∷ 0 ∷ []) ∷ []) 1 8 0)
    ∷ closing 1 (marked instance_in_front) (start 4 0) (state (stack 3 (3 ∷ []) ∷ stack 0 (1 ∷ 0 ∷ []) ∷ []) 2 8 0)
    ∷ closing 1 (marked (of 7 one)) (start 0 (NTK + STP)) fresh
    -- by R7 nothing changes; a finishing start by R7 closes it; 24 is decided before the removal
    ∷ accepted (marked three) (start 2 0) (marked three)
    ∷ accepted three (start 2 NOH) three
    ∷ closing 1 (marked three) (finishing_start 2 NOH) (state (stack 0 (1 ∷ 0 ∷ []) ∷ []) 1 8 0)
    ∷ refused_with 24 (marked (tall 31)) (start 1 0)
    -- a look keeps it and Back clears it; bit 7 of the m byte; a held 2, and a mark on an empty session or image
    ∷ accepted (marked three) look (marked three)
    ∷ closing 1 (marked three) back (state (stack 0 (1 ∷ 0 ∷ []) ∷ []) 1 8 0)
    ∷ has_image (marked one) (0x00 ∷ 0x01 ∷ 0x00 ∷ 0x00 ∷ 0x03 ∷ 0x01 ∷ 0x81 ∷ 0x08 ∷ 0x42 ∷ [])
    ∷ accepted three (restore (0x00 ∷ 0x01 ∷ 0x00 ∷ 0x00 ∷ 0x03 ∷ 0x01 ∷ 0x81 ∷ 0x08 ∷ 0x42 ∷ [])) (marked one)
    ∷ refused_with 7 three (restore (0x00 ∷ 0x00 ∷ 0x00 ∷ 0x80 ∷ 0x08 ∷ 0x42 ∷ []))
    ∷ refused_with 20 (set_no_history 2 three) look
    ∷ refused_with 20 (marked fresh) look
    -- 4: a bit outside the seven
    ∷ refused_with 4 three (start 1 (NOH + NOH))
    ∷ []

stacks : map (λ (c : Case). c.got) cases ≡ map (λ (c : Case). c.said) cases
unfolding computing
stacks = refl

-- ---- the player's example

-- "Records: 010000000000 020100000000 020300000000 030010000000, four of 040000000000."
abbrev example : List ℕ
example =
    T
    ++ (0x01 ∷ 0x00 ∷ 0x00 ∷ 0x00 ∷ 0x00 ∷ 0x00 ∷ 0x02 ∷ 0x01 ∷ 0x00 ∷ 0x00 ∷ 0x00 ∷ 0x00 ∷ [])
    ++ (0x02 ∷ 0x03 ∷ 0x00 ∷ 0x00 ∷ 0x00 ∷ 0x00 ∷ 0x03 ∷ 0x00 ∷ 0x10 ∷ 0x00 ∷ 0x00 ∷ 0x00 ∷ [])
    ++ (0x04 ∷ 0x00 ∷ 0x00 ∷ 0x00 ∷ 0x00 ∷ 0x00 ∷ 0x04 ∷ 0x00 ∷ 0x00 ∷ 0x00 ∷ 0x00 ∷ 0x00 ∷ [])
    ++ (0x04 ∷ 0x00 ∷ 0x00 ∷ 0x00 ∷ 0x00 ∷ 0x00 ∷ 0x04 ∷ 0x00 ∷ 0x00 ∷ 0x00 ∷ 0x00 ∷ 0x00 ∷ [])

played : player_text example
    ≡ ascii "1 0 0 0 1 1 1 0 8 0\n2 0 1 0 2 1 1 0 8 0\n2 0 3 3 1 2 2 0 8 0\n3 0 0 0 3 1 1 1 8 0\n4 0 1 0 2 1 1 1 8 0\n4 0 0 0 1 1 1 1 8 0\n4 0 0 0 0 0 0 1 8 0\n4 21 0 0 0 0 0 0 0 0\n"
unfolding computing
played = refl

-- ---- screens created, closed and standing, where a restore is accepted

-- P10's image, restored over a fresh session
abbrev restored : List Call
restored = restore (0x03 ∷ 0x01 ∷ 0x03 ∷ 0x00 ∷ 0x02 ∷ 0x01 ∷ 0x00 ∷ 0x00 ∷ 0x07 ∷ 0x02 ∷ 0x02 ∷ 0x08 ∷ 0x42 ∷ []) ∷ []

uncounted : created_along T restored ∷ closed_along T restored ∷ standing_after T restored ∷ [] ≡ 0 ∷ 0 ∷ 3 ∷ []
unfolding computing
uncounted = refl
