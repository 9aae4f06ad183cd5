-- The mark of a finishing start as a position, read off the effect: the shorter way that code takes.
-- proofs/Marks.antt shows that it is the position of the screen whose mark travels (specs/Calls.antt).
use Rattle.std.specs.Prelude.{ℕ, Bool, leb, if◌then◌else◌, Option, None, Some}
use Rattle.model.specs.declared.Change.{Change}
use Rattle.model.specs.declared.Effect.{Effect}
use Rattle.model.specs.declared.Position.{Position}

-- where the marked screen stands after the start: nowhere, or behind k tasks and below i screens
abbrev pub stands_at : ℕ → ℕ → Option Position
stands_at k i = Some (record { behind = k; below = i })

-- after a change of its own task; the test tells whether the marked screen is B
abbrev pub mark_in : Change → Bool → Option Position
mark_in Change.Keep is_b = stands_at 0 0
mark_in Change.Renew is_b = None
mark_in Change.Clear is_b = if is_b then stands_at 0 0 else None
mark_in Change.Lift is_b = if is_b then stands_at 0 0 else stands_at 0 1
mark_in Change.Push is_b = stands_at 0 1

-- after an effect; p is the place of the task found
abbrev pub mark_after : Effect → ℕ → Bool → Option Position
mark_after Effect.New p is_b = stands_at 1 0
mark_after (Effect.InFront c) p is_b = mark_in c is_b
mark_after (Effect.MoveAnd c) p is_b = if leb p 1 then mark_in c is_b else stands_at 1 0

-- how many screens close with it
abbrev pub closed_at : Option Position → ℕ
closed_at None = 0
closed_at (Some p) = 1
