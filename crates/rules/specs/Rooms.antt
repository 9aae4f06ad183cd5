-- The check for room by what is stored.
use Rattle.std.specs.Prelude.{ℕ, ◌&&◌, eqb, if◌then◌else◌}
use Rattle.model.specs.declared.Effect.{Effect}
use Rattle.model.specs.Session.{most_tasks, most_height}
use Rattle.model.specs.Calls.{is_push}

-- "23: a new task is needed and n = 16", "24: a push onto a task of 32 (not after empty)", or 0: with n tasks, and h screens in the
-- task that the effect changes
abbrev pub room_by : ℕ → ℕ → Effect → ℕ
room_by n h Effect.New = if eqb n most_tasks then 23 else 0
room_by n h (Effect.InFront x) = if is_push x && eqb h most_height then 24 else 0
room_by n h (Effect.MoveAnd x) = if is_push x && eqb h most_height then 24 else 0
