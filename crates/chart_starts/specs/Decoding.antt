-- What an entry of the flag chart says to the start (document 02, request 9).
use Rattle.std.specs.Prelude.{ℕ, ◌%◌, eqb, if◌then◌else◌}
use Rattle.model.specs.declared.Group.{Group}
use Rattle.model.specs.Flags.{bit}
use Rattle.rules.specs.declared.Asks.{Asks}

-- "Low three bits": the class
abbrev pub class_in : ℕ → ℕ
class_in entry = entry % 8

-- "1 for R1 and R2, 2 for R3 to R6, 3 for R7 to R10, 4 for R11, 5 for R12 to R18"
abbrev pub group_in : ℕ → Group
group_in entry =
    if eqb (class_in entry) 1 then Group.Instance else
    if eqb (class_in entry) 2 then Group.Task else
    if eqb (class_in entry) 3 then Group.NotApart else Group.Apart

-- "Value 8: single", "Value 16: CTP", "Value 32: CTK", "Value 64: RTF"; and R11, which is all of class 4, makes a new task
abbrev pub asks_in : ℕ → Asks
asks_in entry =
    record {
      single = eqb (bit 8 entry) 1;
      new_task = eqb (class_in entry) 4;
      ctp = eqb (bit 16 entry) 1;
      rtf = eqb (bit 64 entry) 1;
      ctk = eqb (bit 32 entry) 1;
    }
