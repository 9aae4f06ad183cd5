-- The answer of a call by its plan, and what making it relies on.
use Rattle.std.specs.Prelude.{ℕ, zero, suc, ◌≤◌, Result, Ok, Err}
use Rattle.model.specs.declared.Answer.{Answer}
use Rattle.model.specs.Session.{most_height}
use Rattle.model.specs.Answers.{refused}
use Rattle.session.specs.declared.Task.{Task}
use Rattle.answer.specs.Seen.{answer_of}
use Rattle.plans.specs.declared.Plan.{Plan}

-- the task in front after the call: where the front one goes, the one behind it
abbrev pub shown_by : ℕ → Task → Task → Task
shown_by zero front second = second
shown_by (suc g) front second = front

-- second is the task behind the front one before the call
abbrev pub answer_for : Plan → Task → Answer
answer_for p second =
    answer_of (shown_by p.gone p.front second) p.n p.main p.closed p.edition p.no_history

-- where a task stands after the call, the one that is shown has screens
abbrev pub Showable : Plan → Task → Type 0
Showable p second =
    1 ≤ p.n
    → (1 ≤ (shown_by p.gone p.front second).height) × ((shown_by p.gone p.front second).height ≤ most_height)

-- the same where a call may have no plan: then the answer is refused by the number
abbrev pub answer_in : Result Plan ℕ → Task → Answer
answer_in (Ok p) second = answer_for p second
answer_in (Err n) second = refused n

abbrev pub ShowableIn : Result Plan ℕ → Task → Type 0
ShowableIn (Ok p) second = Showable p second
ShowableIn (Err n) second = Unit {0}
