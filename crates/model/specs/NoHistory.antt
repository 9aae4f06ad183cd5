-- Document 02, request 7, "No-History screens": what is promised of the mark. Their proofs are in proofs/NoHistoryLaws.antt.
use Rattle.std.specs.Prelude.{ℕ, ◌-◌, ◌*◌, ◌≡◌, Bool, true, false, ◌&&◌, ◌||◌, List, [], ◌∷◌, eqb, if◌then◌else◌}
use Rattle.model.specs.declared.Reason.{Reason}
use Rattle.model.specs.Lists.{is_place, find}
use Rattle.model.specs.Session.{State}
use Rattle.model.specs.Flags.{NOH, bit, flags_of}
use Rattle.model.specs.Calls.{start, finishing_start, call}

-- ---- the mark after a start

-- the rules that push B or make it new, by their numbers: in edition e, where the main place is m
abbrev pub pushes_or_makes : ℕ → ℕ → ℕ → Bool
pushes_or_makes e m r =
    is_place (find (eqb r) (2 ∷ 3 ∷ 5 ∷ 6 ∷ 10 ∷ 11 ∷ 12 ∷ 14 ∷ 17 ∷ 18 ∷ [])) || (eqb r 9 && (eqb e 7 && eqb m 1))

-- "the front screen was pushed or made new by a start, plain or finishing, with this flag": a start with the flag word w from s
-- was accepted by the rule with the number r, and left s'
pub record LeavesMark (finishing : Bool) (s : State ℕ) (w r : ℕ) (s' : State ℕ) : Type 0 where
  -- "save where R7 fits: there nothing changes, the mark included"
  pub plain_by7 : finishing ≡ false → r ≡ 7 → s' ≡ s
  -- a finishing start removes the screen, and the mark goes
  pub finishing_by7 : finishing ≡ true → r ≡ 7 → s'.no_history ≡ 0
  pub by_other : (r ≡ 7 → ⊥) → s'.no_history ≡ (if (flags_of w).noh && pushes_or_makes s.edition s.main r then 1 else 0)

-- r is the reason of a start of b with the flag word w in s
pub record MarksBy (tb : List ℕ) (s : State ℕ) (b w : ℕ) (r : Reason) : Type 0 where
  pub plain : LeavesMark false s w r.rule (call tb s (start b w)).session
  pub finishing : LeavesMark true s w r.rule (call tb s (finishing_start b w)).session

-- ---- what the No-History bit leaves alone

-- a flag word with that bit cleared; the reason of a start with either is the same
abbrev pub without_no_history : ℕ → ℕ
without_no_history w = w - bit NOH w * NOH
