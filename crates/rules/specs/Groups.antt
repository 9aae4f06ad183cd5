-- The rules of a group as the code goes through them, by values: what they ask of the flags, the stack that they read, the main
-- place, the screen that is started, and what was found. "Nothing found" is asked before the rules that need a task.
use Rattle.std.specs.Prelude.{ℕ, not, ◌&&◌, ◌||◌, List, eqb, if◌then◌else◌, Option}
use Rattle.model.specs.declared.Flags.{Flags}
use Rattle.model.specs.declared.Found.{Found}
use Rattle.model.specs.declared.Group.{Group}
use Rattle.model.specs.declared.Rule.{Rule}
use Rattle.model.specs.Table.{is_single_top}
use Rattle.model.specs.Session.{Stack, top}
use Rattle.model.specs.Search.{place_of, is_found, is_found_by_root, holds}
use Rattle.rules.specs.declared.Asks.{Asks}

-- "Single means B's mode is 1 or STP is set."
abbrev pub asks_of : List ℕ → ℕ → Flags → Asks
asks_of tb b f = record { single = is_single_top tb b || f.stp; new_task = f.mtk; ctp = f.ctp; rtf = f.rtf; ctk = f.ctk }

-- R1 and R2
abbrev pub instance_rule : Option Found → Rule
instance_rule t = if is_found t then Rule.R1 else Rule.R2

-- R3 to R6
abbrev pub task_rule : Asks → Stack ℕ → ℕ → Option Found → Rule
task_rule a u b t = if not (is_found t) then Rule.R6 else if a.ctk then Rule.R3 else if holds b u.screens then Rule.R4 else Rule.R5

-- R7 to R10
abbrev pub not_apart_rule : Asks → Stack ℕ → ℕ → Rule
not_apart_rule a u b =
    if eqb b (top u) && (a.single || a.rtf || a.ctp) then Rule.R7 else
    if a.ctp && holds b u.screens then Rule.R8 else
    if a.rtf && holds b u.screens then Rule.R9 else Rule.R10

-- R11 to R18, where m is the main place
abbrev pub apart_rule : Asks → Stack ℕ → ℕ → ℕ → Option Found → Rule
apart_rule a u m b t =
    if a.new_task then Rule.R11 else
    if not (is_found t) then Rule.R18 else
    if a.ctk then Rule.R12 else
    if a.ctp && holds b u.screens then Rule.R13 else
    if a.ctp then Rule.R14 else
    if is_found_by_root t && not (eqb (place_of t) m) then Rule.R15 else
    if a.single && eqb (top u) b then Rule.R16 else Rule.R17

abbrev pub rule_by : Group → Asks → Stack ℕ → ℕ → ℕ → Option Found → Rule
rule_by Group.Instance a u m b t = instance_rule t
rule_by Group.Task a u m b t = task_rule a u b t
rule_by Group.NotApart a u m b t = not_apart_rule a u b
rule_by Group.Apart a u m b t = apart_rule a u m b t
