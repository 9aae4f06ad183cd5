-- Document 01, "Refusals": a call is refused by the first of its checks whose condition holds.
use Rattle.std.specs.Prelude.{ℕ, zero, suc, Bool, true, List, Result, Ok, Err}
use Rattle.model.specs.declared.Refusal.{Refusal}
use Rattle.model.specs.Lists.{first}

-- one check: its number, and whether its condition holds
pub record Check : Type 0 where
  pub refusal : ℕ
  pub applies : Bool

abbrev pub check : ℕ → Bool → Check
check k b = record { refusal = k; applies = b }

-- "refusal (0 if none)"
abbrev pub accepted : Check
accepted = check 0 true

-- "The checks go in the order ..": the number of the first that applies
unfoldable pub refusal : List Check → ℕ
refusal cs = (first accepted (λ c. c.applies) cs).refusal

-- the number that the documents give each refusal
abbrev pub refusal_number : Refusal → ℕ
refusal_number Refusal.TableLength = 1
refusal_number Refusal.TableContents = 2
refusal_number Refusal.UnknownScreen = 3
refusal_number Refusal.UnknownFlag = 4
refusal_number Refusal.ImageEnd = 5
refusal_number Refusal.ImageTasks = 6
refusal_number Refusal.ImageUnsound = 7
refusal_number Refusal.BufferShort = 8
refusal_number Refusal.UnknownRecord = 9
refusal_number Refusal.SessionUnsound = 20
refusal_number Refusal.NoTask = 21
refusal_number Refusal.TaskStands = 22
refusal_number Refusal.TasksFull = 23
refusal_number Refusal.TaskFull = 24
refusal_number Refusal.UnknownEdition = 30
refusal_number Refusal.TallyRefused = 31
refusal_number Refusal.SeedZero = 32
refusal_number Refusal.UnknownBits = 35
refusal_number Refusal.StepUnsound = 36
refusal_number Refusal.PanelsFull = 37
refusal_number Refusal.StepsOrder = 38

-- "refusal (0 if none)", of what is given or refused
module _ {A : Type 0} where
  abbrev pub refusal_in : Result A Refusal → ℕ
  refusal_in (Ok x) = 0
  refusal_in (Err r) = refusal_number r

-- the same with the refusal by its number
module _ {A : Type 0} where
  abbrev pub numbered : Result A Refusal → Result A ℕ
  numbered (Ok x) = Ok x
  numbered (Err r) = Err (refusal_number r)

  -- x where the refusal k is 0, which stands for none
  abbrev pub unless : ℕ → A → Result A ℕ
  unless zero x = Ok x
  unless (suc k) x = Err (suc k)
