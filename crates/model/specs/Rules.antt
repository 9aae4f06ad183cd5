-- Document 01, "Calls": which of the rules R1 to R18 a start uses.
use Rattle.std.specs.Prelude.{ℕ, Bool, true, not, ◌&&◌, ◌||◌, List, [], ◌∷◌, eqb, if◌then◌else◌, Option, None}
use Rattle.model.specs.declared.Choice.{Choice}
use Rattle.model.specs.declared.Flags.{Flags}
use Rattle.model.specs.declared.Found.{Found}
use Rattle.model.specs.declared.Group.{Group}
use Rattle.model.specs.declared.Rule.{Rule}
use Rattle.model.specs.Lists.{first}
use Rattle.model.specs.Table.{is_single_top, is_single_task, is_single_instance}
use Rattle.model.specs.Session.{State, Stack, task_at, front, front_screen, top}
use Rattle.model.specs.Search.{place_of, is_found, is_found_by_root, seek_root, seek, holds}

-- "the rule number R1 to R18" (02, request 1)
abbrev pub number_of : Rule → ℕ
number_of Rule.R1 = 1
number_of Rule.R2 = 2
number_of Rule.R3 = 3
number_of Rule.R4 = 4
number_of Rule.R5 = 5
number_of Rule.R6 = 6
number_of Rule.R7 = 7
number_of Rule.R8 = 8
number_of Rule.R9 = 9
number_of Rule.R10 = 10
number_of Rule.R11 = 11
number_of Rule.R12 = 12
number_of Rule.R13 = 13
number_of Rule.R14 = 14
number_of Rule.R15 = 15
number_of Rule.R16 = 16
number_of Rule.R17 = 17
number_of Rule.R18 = 18

-- R7: "nothing"
abbrev pub is_r7 : Rule → Bool
is_r7 r = eqb (number_of r) 7

-- "B single-instance: ..", "B single-task, ..", "Otherwise, not apart: ..", "Otherwise, apart: .."
unfoldable pub rules_of : Group → List Rule
rules_of Group.Instance = Rule.R1 ∷ Rule.R2 ∷ []
rules_of Group.Task = Rule.R3 ∷ Rule.R4 ∷ Rule.R5 ∷ Rule.R6 ∷ []
rules_of Group.NotApart = Rule.R7 ∷ Rule.R8 ∷ Rule.R9 ∷ Rule.R10 ∷ []
rules_of Group.Apart = Rule.R11 ∷ Rule.R12 ∷ Rule.R13 ∷ Rule.R14 ∷ Rule.R15 ∷ Rule.R16 ∷ Rule.R17 ∷ Rule.R18 ∷ []

-- a start of the screen b, with the flags f, in the session s, whose front screen is A
module _ (tb : List ℕ) (s : State ℕ) (b : ℕ) (f : Flags) where
  -- "Single means B's mode is 1 or STP is set." Single is 01's own term.
  unfoldable pub is_single : Bool
  is_single = is_single_top tb b || f.stp

  -- "Apart means NTK is set or A is single-instance." Apart is 01's own term.
  unfoldable pub is_apart : Bool
  is_apart = f.ntk || is_single_instance tb (front_screen s)

  unfoldable pub group_of : Group
  group_of =
      if is_single_instance tb b then Group.Instance else
      if is_single_task tb b then Group.Task else
      if is_apart then Group.Apart else Group.NotApart

  -- how each group seeks a task: "found by root"; "sought by root, then by affinity"; not at all; "R11 MTK: new. Then
  -- sought by root, then by affinity." In edition 6 by affinity alone, as `seek` says (02, request 4).
  unfoldable pub sought_by : Group → Option Found
  sought_by Group.Instance = seek_root b s.tasks
  sought_by Group.Task = seek tb s.edition b s.tasks
  sought_by Group.NotApart = None
  sought_by Group.Apart = if f.mtk then None else seek tb s.edition b s.tasks

  -- the task found
  abbrev pub task_found : Option Found → Stack ℕ
  task_found t = task_at s.tasks (place_of t)

  -- the condition of each rule, where t was found: what 01 writes before its colon
  unfoldable pub fits : Option Found → Rule → Bool
  fits t Rule.R1 = is_found t
  fits t Rule.R2 = true
  fits t Rule.R3 = is_found t && f.ctk
  fits t Rule.R4 = is_found t && holds b (task_found t).screens
  fits t Rule.R5 = is_found t
  fits t Rule.R6 = true
  fits t Rule.R7 = eqb b (front_screen s) && (is_single || f.rtf || f.ctp)
  fits t Rule.R8 = f.ctp && holds b (front s).screens
  fits t Rule.R9 = f.rtf && holds b (front s).screens
  fits t Rule.R10 = true
  fits t Rule.R11 = f.mtk
  fits t Rule.R12 = is_found t && f.ctk
  fits t Rule.R13 = is_found t && (f.ctp && holds b (task_found t).screens)
  fits t Rule.R14 = is_found t && f.ctp
  fits t Rule.R15 = is_found_by_root t && not (eqb (place_of t) s.main)
  fits t Rule.R16 = is_found t && (is_single && eqb (top (task_found t)) b)
  fits t Rule.R17 = is_found t
  fits t Rule.R18 = true

  -- "The first rule that fits is used."
  unfoldable pub choose_in : Group → Choice
  choose_in g = record { rule = first Rule.R18 (fits (sought_by g)) (rules_of g); found = sought_by g }

  unfoldable pub choose : Choice
  choose = choose_in group_of
