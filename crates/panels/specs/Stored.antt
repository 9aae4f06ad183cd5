-- Panels as they are stored: 8, bottom first, 0 beyond.
use Rattle.std.specs.Prelude.{ℕ, ◌+◌, ◌≤◌, ◌≡◌, List, length, take, set, replicate, eqb, if◌then◌else◌, Result, Ok, Err}
use Rattle.model.specs.declared.Refusal.{Refusal}
use Rattle.session.specs.Stored.{pad}
use Rattle.panels.specs.Operations.{most_panels, Operation, operation, carried_out, makes_nine}
use Rattle.panels.specs.declared.Panels.{Panels}
use Rattle.panels.specs.declared.Operation.{Operation as Read}

abbrev pub no_panels : Panels
no_panels = record { count = 0; panels = replicate most_panels 0 }

-- the panels that are stored
unfoldable pub view_panels : Panels → List ℕ
view_panels q = take q.count q.panels

-- storage for these panels
unfoldable pub hold_panels : List ℕ → Panels
hold_panels xs = record { count = length xs; panels = pad most_panels 0 xs }

-- one panel more on top
abbrev pub pushed : Panels → ℕ → Panels
pushed q p = record { count = q.count + 1; panels = set q.panels q.count p }

-- nothing but what stands, and 0 beyond
abbrev pub IsClean : Panels → Type 0
IsClean q = (q.count ≤ most_panels) × (q ≡ hold_panels (view_panels q))

-- an operation as it is read, from its kind and its panel
abbrev pub read_operation : ℕ → ℕ → Read
read_operation k p = if eqb k 1 then Read.Add p else if eqb k 2 then Read.Remove p else Read.Replace p

-- and as it was written
abbrev pub written_operation : Read → Operation
written_operation (Read.Add p) = operation 1 p
written_operation (Read.Remove p) = operation 2 p
written_operation (Read.Replace p) = operation 3 p

-- the operations of a step on these panels: the panels, or 37
unfoldable pub carried_or37 : List Operation → List ℕ → Result Panels Refusal
carried_or37 os xs = if makes_nine os xs then Err Refusal.PanelsFull else Ok (hold_panels (carried_out os xs))
