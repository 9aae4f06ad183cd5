-- Document 02, request 4, "Sellers on Android 6.0 and 7.0 phones": what is promised of editions. Their proofs are in
-- proofs/EditionLaws.antt.
use Rattle.std.specs.Prelude.{ℕ, ◌≡◌, true, List}
use Rattle.model.specs.declared.Reason.{Reason}
use Rattle.model.specs.Session.{State, count, edition_kept}
use Rattle.model.specs.Search.{seeks_by_root}
use Rattle.model.specs.Calls.{Call, launch, start, finishing_start, back, look, restore}

-- r is the reason of a start of the screen b in the session s
pub record EditionSeeks (tb : List ℕ) (s : State ℕ) (b : ℕ) (r : Reason) : Type 0 where
  -- "except for single-instance screens, search is by affinity only" in edition 6: a task that is found by root was sought by it
  pub by_root : r.found ≡ 1 → seeks_by_root tb s.edition b ≡ true
  -- "so R15 never fits"
  pub never15 : s.edition ≡ 6 → r.rule ≡ 15 → ⊥

-- "the session keeps it until empty, when it is 8 again": s' comes after s
abbrev pub EditionKept : State ℕ → State ℕ → Type 0
EditionKept s s' = s'.edition ≡ edition_kept (count s') s.edition

-- a call that names no edition, and brings none in an image
abbrev pub NamesNoEdition : Call → Type 0
NamesNoEdition (launch e) = ⊥
NamesNoEdition (start b w) = Unit {0}
NamesNoEdition (finishing_start b w) = Unit {0}
NamesNoEdition back = Unit {0}
NamesNoEdition look = Unit {0}
NamesNoEdition (restore bytes) = ⊥
