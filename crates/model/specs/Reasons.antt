-- Document 02, request 1, "Which rule moved my seller?": the rule of a start and the task that was found for it.
use Rattle.std.specs.Prelude.{ℕ, zero, suc, pred, ◌≡◌, false, List, ◌++◌, get_or, if◌then◌else◌, Option, None, Some}
use Rattle.model.specs.declared.Choice.{Choice}
use Rattle.model.specs.declared.Found.{Found}
use Rattle.model.specs.declared.Group.{Group}
use Rattle.model.specs.declared.Reason.{Reason}
use Rattle.model.specs.declared.Rule.{Rule}
use Rattle.model.specs.Lists.{FirstFit}
use Rattle.model.specs.Session.{State}
use Rattle.model.specs.Flags.{flags_of}
use Rattle.model.specs.Search.{place_of, is_root}
use Rattle.model.specs.Rules.{number_of, rules_of, group_of, sought_by, fits}
use Rattle.model.specs.Calls.{start, chosen, start_by, refusal_of}

-- ---- the four numbers

-- "whether root or affinity found it (0 none, 1 root, 2 affinity)"
abbrev pub how_found : Option Found → ℕ
how_found None = 0
how_found (Some f) = if is_root f.by then 1 else 2

-- "the rule number R1 to R18, the place of the task found (0 if none) and whether root or affinity found it"; "Before the three
-- stands the refusal, 0 if none"
abbrev pub reason_of : Choice → Reason
reason_of c = record { refusal = 0; rule = number_of c.rule; place = place_of c.found; found = how_found c.found }

-- "a refused start yields its refusal and three zeros"
abbrev pub no_reason : ℕ → Reason
no_reason k = record { refusal = k; rule = 0; place = 0; found = 0 }

-- by the refusal of the start, 0 if none
abbrev pub reason_by : ℕ → Choice → Reason
reason_by zero c = reason_of c
reason_by (suc k) c = no_reason (suc k)

-- "takes table, session, screen and flags and gives the rule number .."
unfoldable pub why : List ℕ → State ℕ → ℕ → ℕ → Reason
why tb s b w = reason_by (refusal_of tb s (start b w)) (chosen tb s b w)

-- ---- what is to be proved of them

-- the rule that has a number; where none has it, R1 for 0 and R18 for any other
unfoldable pub rule_numbered : ℕ → Rule
rule_numbered n = get_or (rules_of Group.Instance ++ rules_of Group.Task ++ rules_of Group.NotApart ++ rules_of Group.Apart) (pred n) Rule.R18

-- a start of the screen b with the flag word w in the session s
module _ (tb : List ℕ) (s : State ℕ) (b w : ℕ) where
  -- the group that is selected by B's mode, and by whether the start is apart
  abbrev pub group_selected : Group
  group_selected = group_of tb s b (flags_of w)

  -- what that group's search gives
  abbrev pub task_sought : Option Found
  task_sought = sought_by tb s b (flags_of w) group_selected

  -- "this rule, and no earlier one of its group, fits": n is the number of a rule of the group, the rule's test fits, and that
  -- of each earlier rule of the group does not
  pub record FitsFirst (n : ℕ) : Type 0 where
    pub numbered : number_of (rule_numbered n) ≡ n
    pub first : FirstFit (fits tb s b (flags_of w) task_sought) (rules_of group_selected) (rule_numbered n)

  -- place and how are those of the task that the group's search finds, before the move
  pub record IsFoundAt (p h : ℕ) : Type 0 where
    pub place : p ≡ place_of task_sought
    pub how : h ≡ how_found task_sought

-- a start of b with the flag word w in s by a rule: it is carried out, "then the removal" where the front was marked and the rule
-- is not R7, and the mark is set or cleared; p is the place of the task found
unfoldable pub carried_by : State ℕ → ℕ → ℕ → Rule → ℕ → State ℕ
carried_by s b w r p = start_by false (flags_of w) r p b s
