-- What a plan puts into a session, row by row.
use Rattle.std.specs.Prelude.{ℕ, ◌≤◌, ◌<◌, ◌≡◌, Bool, true, false, List, [], ◌∷◌, ◌++◌, ltb, get_or, set}
use Rattle.model.specs.Lists.{omit}
use Rattle.model.specs.Session.{most_tasks, most_height}
use Rattle.session.specs.declared.Task.{Task}
use Rattle.session.specs.declared.Session.{Session}
use Rattle.session.specs.Stored.{no_task, blank_task, popped}
use Rattle.effects.specs.Rows.{shifted}
use Rattle.plans.specs.declared.Plan.{Plan}

-- the task behind the front one loses its top screen
abbrev pub popped_if : Bool → List Task → List Task
popped_if true ts = set ts 1 (popped (get_or ts 1 no_task))
popped_if false ts = ts

-- the task behind m others goes, and the last place is blank
abbrev pub gone_if : Bool → ℕ → List Task → List Task
gone_if true m ts = omit m ts ++ blank_task ∷ []
gone_if false m ts = ts

-- the front task is put and so many go back; then one pops, and one goes
abbrev pub row_of : Plan → List Task → List Task
row_of p ts = gone_if (ltb p.gone most_tasks) p.gone (popped_if p.pops (shifted p.front p.shift ts))

-- ---- what putting relies on

-- the task behind the front one has a screen
abbrev pub Poppable : Bool → List Task → Type 0
Poppable pops ts = pops ≡ true → (0 < (get_or ts 1 no_task).height) × ((get_or ts 1 no_task).height ≤ most_height)

pub record Puttable (s : Session) (p : Plan) : Type 0 where
  pub few : p.shift < most_tasks
  pub second : Poppable p.pops (shifted p.front p.shift s.tasks)

-- the session with the row that is put, and its own numbers
abbrev pub row_put : Session → Plan → Session
row_put s p = record { tasks = row_of p s.tasks; n = s.n; main = s.main; edition = s.edition; no_history = s.no_history }

-- the session with its tasks and its numbers
abbrev pub put_of : Session → Plan → Session
put_of s p = record { tasks = row_of p s.tasks; n = p.n; main = p.main; edition = p.edition; no_history = p.no_history }
