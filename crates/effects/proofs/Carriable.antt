-- What carrying out an effect on a stored session relies on.
use Prim.Native.Nat.{ℕ, ◌≤◌, ◌<◌}
use mathlib.Core.Path.{◌≡◌}
use mathlib.Core.Bool.{true}
use Rattle.model.specs.declared.Effect.{Effect}
use Rattle.model.specs.Session.{State, task_at, front, count, most_tasks}
use Rattle.session.specs.declared.Session.{Session}
use Rattle.session.specs.Stored.{view, storage_blank}
use Rattle.effects.specs.Carriable.{HasRoom}

-- the effect finds the task that it changes, at the place p or in front, and room
abbrev pub Finds : Effect → ℕ → State ℕ → Type 0
Finds Effect.New p v = (count v < most_tasks) × (v.main ≤ count v)
Finds (Effect.InFront c) p v = (1 ≤ count v) × HasRoom c (front v)
Finds (Effect.MoveAnd c) p v = ((1 ≤ p) × (p ≤ count v)) × HasRoom c (task_at v.tasks p)

pub record Carriable (s : Session) (d : Effect) (p : ℕ) : Type 0 where
  pub blank : storage_blank s ≡ true
  pub finds : Finds d p (view s)
