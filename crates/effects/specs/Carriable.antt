-- What carrying out an effect relies on; nothing of it is checked again.
use Rattle.std.specs.Prelude.{ℕ, ◌≤◌, ◌<◌, ◌≡◌, true}
use Rattle.model.specs.declared.Change.{Change}
use Rattle.model.specs.declared.Effect.{Effect}
use Rattle.model.specs.Session.{Stack, height, most_height}
use Rattle.session.specs.declared.Task.{Task}
use Rattle.session.specs.Stored.{view_task, blank_above}

-- a push finds room in the task
abbrev pub HasRoom : Change → Stack ℕ → Type 0
HasRoom c t = c ≡ Change.Push → height t < most_height

-- a move has a place
abbrev pub Placed : Effect → ℕ → Type 0
Placed Effect.New p = Unit {0}
Placed (Effect.InFront c) p = Unit {0}
Placed (Effect.MoveAnd c) p = 1 ≤ p

-- a task that is renewed may hold anything; any other change relies on 0 above the height, and a push on room
abbrev pub Alterable : Change → Task → Type 0
Alterable Change.Keep t = blank_above t ≡ true
Alterable Change.Renew t = Unit {0}
Alterable Change.Clear t = blank_above t ≡ true
Alterable Change.Lift t = blank_above t ≡ true
Alterable Change.Push t = (blank_above t ≡ true) × (height (view_task t) < most_height)

-- the task that the effect changes holds 0 above its height, and has room
abbrev pub Changeable : Effect → Task → Type 0
Changeable Effect.New t = Unit {0}
Changeable (Effect.InFront c) t = (blank_above t ≡ true) × HasRoom c (view_task t)
Changeable (Effect.MoveAnd c) t = (blank_above t ≡ true) × HasRoom c (view_task t)
