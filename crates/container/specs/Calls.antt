-- Document 02, request 14: a container and its two calls, over lists; and the live steps of a list of calls.
use Rattle.std.specs.Prelude.{ℕ, ◌-◌, Bool, List, [], ◌∷◌, ◌++◌, length, get_or, take, if◌then◌else◌}
use Rattle.panels.specs.Operations.{operations_in, carried_out}

-- "up to 8 recorded steps"
abbrev pub most_steps : ℕ
most_steps = 8

-- the panels now, and those that each recorded step found, oldest first
pub record State : Type 0 where
  pub now : List ℕ
  pub kept : List (List ℕ)

abbrev pub state : List ℕ → List (List ℕ) → State
state now kept = record { now = now; kept = kept }

-- a step: whether it is recorded, and its operations as bytes
pub record Step : Type 0 where
  pub recorded : Bool
  pub operations : List ℕ

pub data Call : Type 0 where
  step : Step → Call
  back : Call

module _ {A : Type 0} where
  abbrev pub without_last : List A → List A
  without_last xs = take (length xs - 1) xs

  abbrev pub last_of : A → List A → A
  last_of d xs = get_or xs (length xs - 1) d

-- ---- accepted calls

-- the panels that a step makes
abbrev pub shown_by : Step → List ℕ → List ℕ
shown_by p xs = carried_out (operations_in p.operations) xs

-- "A step may be recorded, and then keeps the panels it found."
unfoldable pub stepped : Step → State → State
stepped p s = state (shown_by p s.now) (if p.recorded then s.kept ++ (s.now ∷ []) else s.kept)

-- "Back undoes the last recorded step."
unfoldable pub backed : State → State
backed s = state (last_of [] s.kept) (without_last s.kept)

abbrev pub carried : Call → State → State
carried (step p) s = stepped p s
carried back s = backed s

-- ---- steps

-- "the steps carried out and not undone": an accepted step appends itself, an accepted Back drops the last
abbrev pub counted_in : Call → List Step → List Step
counted_in (step p) live = live ++ (p ∷ [])
counted_in back live = without_last live

-- the panels of these steps, one after the other, from these panels
abbrev pub run_from : List ℕ → List Step → List ℕ
run_from xs [] = xs
run_from xs (p ∷ steps) = run_from (shown_by p xs) steps

-- from none
abbrev pub run : List Step → List ℕ
run steps = run_from [] steps
