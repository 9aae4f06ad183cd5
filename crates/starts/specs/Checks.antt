-- The checks of a start on a stored session, in the two parts that code makes: before it looks for room, and for room.
use Rattle.std.specs.Prelude.{ℕ, not, List, [], ◌∷◌, ltb, eqb}
use Rattle.model.specs.declared.Flags.{Flags}
use Rattle.model.specs.Refusals.{Check, check, refusal}
use Rattle.model.specs.Table.{size_of}
use Rattle.model.specs.Rules.{choose}
use Rattle.model.specs.Flags.{has_other_bit}
use Rattle.model.specs.Calls.{room_checks}
use Rattle.session.specs.declared.Session.{Session}
use Rattle.session.specs.Stored.{view}

-- 3, 4 and 21, where n tasks stand; 23 and 24 come after them
abbrev pub start_entry : List ℕ → ℕ → ℕ → ℕ → List Check
start_entry tb n b w = check 3 (not (ltb b (size_of tb))) ∷ check 4 (has_other_bit w) ∷ check 21 (eqb n 0) ∷ []

-- 23, 24, or 0
abbrev pub room_refusal : List ℕ → Session → ℕ → Flags → ℕ
room_refusal tb c b f = refusal (room_checks (choose tb (view c) b f) (view c))
