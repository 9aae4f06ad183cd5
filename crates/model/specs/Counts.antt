-- Document 02, request 2: how many screens the effect of a rule creates and closes. Only the effect is asked, not the rule's
-- number.
use Rattle.std.specs.Prelude.{ℕ, pred, Bool, List, length}
use Rattle.model.specs.declared.Change.{Change}
use Rattle.model.specs.declared.Effect.{Effect}
use Rattle.model.specs.Lists.{find}
use Rattle.model.specs.Session.{State, task_at, front}

-- ---- created: "Created is counted from the rules: one for .. each new task and each push."

-- a renewed task is emptied and pushed onto
unfoldable pub created_in : Change → ℕ
created_in Change.Keep = 0
created_in Change.Renew = 1
created_in Change.Clear = 0
created_in Change.Lift = 0
created_in Change.Push = 1

unfoldable pub created_by : Effect → ℕ
created_by Effect.New = 1
created_by (Effect.InFront c) = created_in c
created_by (Effect.MoveAnd c) = created_in c

-- ---- closed: "screens removed by this call"

module _ {A : Type 0} (is_b : A → Bool) where
  -- of the screens of a task: "Clear to B removes all above the topmost B and keeps that B." "Empty removes all screens of
  -- the moved task." "A lift closes nothing."
  unfoldable pub closed_in : Change → List A → ℕ
  closed_in Change.Keep xs = 0
  closed_in Change.Renew xs = length xs
  closed_in Change.Clear xs = pred (find is_b xs)
  closed_in Change.Lift xs = 0
  closed_in Change.Push xs = 0

  -- p is the place of the task found
  unfoldable pub closed_by : Effect → ℕ → State A → ℕ
  closed_by Effect.New p s = 0
  closed_by (Effect.InFront c) p s = closed_in c (front s).screens
  closed_by (Effect.MoveAnd c) p s = closed_in c (task_at s.tasks p).screens
