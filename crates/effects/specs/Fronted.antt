-- An effect told by the task that stands in front after it, by how many tasks it sends one place back, and by the numbers.
use Rattle.std.specs.Prelude.{ℕ, suc, pred, [], ◌∷◌, eqb, drop, unwrap_or, Option, None}
use Rattle.model.specs.declared.Change.{Change}
use Rattle.model.specs.declared.Effect.{Effect}
use Rattle.model.specs.Lists.{further, find}
use Rattle.model.specs.Session.{stack}
use Rattle.model.specs.Effects.{main_moved, changed}
use Rattle.session.specs.declared.Task.{Task}
use Rattle.session.specs.Stored.{view_task, hold_task}
use Rattle.search.specs.Above.{above_of}

-- a task after a change of its screens
abbrev pub changed_task : ℕ → Change → Task → Task
changed_task b c t = hold_task (stack t.root (changed (eqb b) b c (view_task t).screens))

-- how many screens stand above the topmost b in a task that is to be cleared to it or in which it is to be lifted; none for any
-- other change
abbrev pub above_in : ℕ → Change → Task → Option ℕ
above_in b Change.Keep t = None
above_in b Change.Renew t = None
above_in b Change.Clear t = above_of (find (eqb b) (view_task t).screens)
above_in b Change.Lift t = above_of (find (eqb b) (view_task t).screens)
above_in b Change.Push t = None

-- a task cleared to the screen below so many
abbrev pub cleared_task : Option ℕ → Task → Task
cleared_task above t = hold_task (stack t.root (drop (unwrap_or above 0) (view_task t).screens))

-- how many screens a change closes in a task of height h, where so many stand above the topmost b
abbrev pub closed_in_task : Change → ℕ → Option ℕ → ℕ
closed_in_task Change.Keep h above = 0
closed_in_task Change.Renew h above = h
closed_in_task Change.Clear h above = unwrap_or above 0
closed_in_task Change.Lift h above = 0
closed_in_task Change.Push h above = 0

-- the task that a renewal or a push puts b onto
abbrev pub base_of : Change → Task → Task
base_of Change.Keep t = t
base_of Change.Renew t = hold_task (stack t.root [])
base_of Change.Clear t = t
base_of Change.Lift t = t
base_of Change.Push t = t

-- how many of n tasks go one place back; the effect changes the task behind them. p is the place of the task found
abbrev pub shift_of : Effect → ℕ → ℕ → ℕ
shift_of Effect.New p n = n
shift_of (Effect.InFront c) p n = 0
shift_of (Effect.MoveAnd c) p n = pred p

-- what the effect does to the screens of the task in front after it, a new task being one renewed
abbrev pub change_of : Effect → Change
change_of Effect.New = Change.Renew
change_of (Effect.InFront c) = c
change_of (Effect.MoveAnd c) = c

-- how many screens stand above the topmost b in the task that the effect changes
abbrev pub above_for : ℕ → Effect → Task → Option ℕ
above_for b d t = above_in b (change_of d) t

-- the root of the task in front after it
abbrev pub root_after : ℕ → ℕ → Effect → ℕ
root_after r b Effect.New = b
root_after r b (Effect.InFront c) = r
root_after r b (Effect.MoveAnd c) = r

-- the task in front; t is the one that the effect changes
abbrev pub front_after : ℕ → Effect → Task → Task
front_after b Effect.New t = hold_task (stack b (b ∷ []))
front_after b (Effect.InFront c) t = changed_task b c t
front_after b (Effect.MoveAnd c) t = changed_task b c t

-- how many screens it closes in the task that it changes; a new task has none to close
abbrev pub closed_for : Effect → ℕ → Option ℕ → ℕ
closed_for Effect.New h above = 0
closed_for (Effect.InFront c) h above = closed_in_task c h above
closed_for (Effect.MoveAnd c) h above = closed_in_task c h above

abbrev pub count_after : Effect → ℕ → ℕ
count_after Effect.New n = suc n
count_after (Effect.InFront c) n = n
count_after (Effect.MoveAnd c) n = n

abbrev pub main_after : Effect → ℕ → ℕ → ℕ
main_after Effect.New p m = further m
main_after (Effect.InFront c) p m = m
main_after (Effect.MoveAnd c) p m = main_moved p m
