-- The plans of launch and Back: refused by k, the refusal of the checks before the call's own, or by its own, or made.
use Rattle.std.specs.Prelude.{ℕ, not, List, [], ◌∷◌, eqb, if◌then◌else◌, Option, Result, Ok, Err}
use Rattle.model.specs.declared.Position.{Position}
use Rattle.model.specs.Table.{main_screen}
use Rattle.model.specs.Session.{stack, is_edition}
use Rattle.model.specs.Answers.{refused}
use Rattle.model.specs.Calls.{edition_named}
use Rattle.model.specs.Refusals.{unless}
use Rattle.session.specs.declared.Session.{Session}
use Rattle.session.specs.declared.Task.{Task}
use Rattle.session.specs.Stored.{hold_task, task_behind}
use Rattle.plans.specs.declared.Plan.{Plan}
use Rattle.plans.specs.Plans.{keeps, closes_with}
use Rattle.plans.specs.Puts.{Puttable, put_of}
use Rattle.plans.specs.Shown.{answer_for, Showable}
use Rattle.starts.specs.Steps.{or_else}
use Rattle.calls.specs.declared.Reply.{Reply}
use Rattle.calls.specs.StoredCalls.{reply}
use Rattle.model.specs.Marks.{stands_at}

-- ---- launch

-- "22: launch: not empty"; "launch gives 30, after 22, for another edition"; n tasks stand
abbrev pub launch_refusal : ℕ → ℕ → ℕ
launch_refusal n e = if not (eqb n 0) then 22 else if is_edition (edition_named e) then 0 else 30

-- "one task whose root and only screen is the main screen"
abbrev pub main_task : List ℕ → Task
main_task tb = hold_task (stack (main_screen tb) (main_screen tb ∷ []))

abbrev pub launch_plan : ℕ → List ℕ → Session → ℕ → Result Plan ℕ
launch_plan k tb c e = unless (or_else k (launch_refusal c.n e)) (keeps (main_task tb) 0 1 1 (edition_named e))

-- ---- Back

-- "21: start, Back: empty"; n tasks stand
abbrev pub back_refusal : ℕ → ℕ
back_refusal n = if eqb n 0 then 21 else 0

-- "removes the front screen": the screen on top of the front task
abbrev pub back_mark : Option Position
back_mark = stands_at 0 0

abbrev pub back_plan : ℕ → Session → Result Plan ℕ
back_plan k c =
    unless (or_else k (back_refusal c.n))
    (closes_with back_mark (task_behind c 0) (record { second = 0; shift = 0; n = c.n; main = c.main; edition = c.edition; closed = 0 }))

-- ---- carried out

-- what is planned is put, and its answer is made from it; or the refusal by its number
abbrev pub carried_out : Session → Result Plan ℕ → Reply
carried_out c (Ok p) = reply (put_of c p) (answer_for p (task_behind c 1))
carried_out c (Err n) = reply c (refused n)

-- what that relies on
abbrev pub CanCarryOut : Session → Result Plan ℕ → Type 0
CanCarryOut c (Ok p) = Puttable c p × Showable p (task_behind c 1)
CanCarryOut c (Err n) = Unit {0}
