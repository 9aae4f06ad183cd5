-- The No-History mark: what a start leaves by each rule, that the bit in the flag word changes nothing else, and that images and
-- looks tell it.
use Prim.Native.Nat.{ℕ, ◌+◌, ◌*◌}
use mathlib.Core.Path.{◌≡◌, refl, sym, ◌∙◌, ap}
use mathlib.Core.Bool.{Bool, true, false, not, ◌&&◌}
use mathlib.Core.List.{List, [], ◌∷◌}
use native.Mathlib.Omega.{arith}
use lib.Dec.{eqb}
use Rattle.model.specs.declared.Answer.{Answer}
use Rattle.model.specs.declared.Change.{Change}
use Rattle.model.specs.declared.Effect.{Effect}
use Rattle.model.specs.declared.Flags.{Flags}
use Rattle.model.specs.declared.Found.{Found}
use Rattle.model.specs.declared.Group.{Group}
use Rattle.model.specs.declared.Rule.{Rule}
use Rattle.std.specs.Prelude.{if◌then◌else◌, Option}
use Rattle.model.specs.Lists.{is_empty, first, on_first}
use Rattle.model.specs.Refusals.{refusal}
use Rattle.model.specs.Table.{table_refusal}
use Rattle.model.specs.Session.{Stack, State, on_screens, set_no_history, sound}
use Rattle.model.specs.Flags.{NTK, STP, MTK, CTP, RTF, CTK, NOH, bit, flags_of, seven_of, has_other_bit}
use Rattle.model.specs.Search.{place_of}
use Rattle.model.specs.Rules.{number_of, is_r7, rules_of, is_single, is_apart, group_of, sought_by, fits, choose_in, choose}
use Rattle.model.specs.Effects.{reordered, effect_of, changed, change_front, carry_out, task_left, close}
use Rattle.model.specs.Counts.{created_in, created_by}
use Rattle.model.specs.Answers.{look_at}
use Rattle.model.specs.Image.{image}
use Rattle.model.specs.Calls.{start, finishing_start, chosen, effect_at, caller_closes, no_history_after, start_by, started, start_checks, own_checks, closed_of, done, refusal_of}
use Rattle.model.specs.Reasons.{reason_of, rule_numbered, why}
use Rattle.model.specs.NoHistory.{pushes_or_makes, LeavesMark, MarksBy, without_no_history}
use Rattle.model.proofs.Logic.{eqb-decides, same_test, refuted, if-elim}
use Rattle.model.proofs.Sound.{Sound, sound-decides}
use Rattle.model.proofs.Keeps.{settled}
use Rattle.model.proofs.ImageLaws.{image_injective}
use Rattle.model.proofs.ReasonLaws.{rule-numbered}

-- ---- the choice does not ask for the flag

-- the flags without it
abbrev six_of : Flags → Flags
six_of f = record { ntk = f.ntk; stp = f.stp; mtk = f.mtk; ctp = f.ctp; rtf = f.rtf; ctk = f.ctk; noh = false }

module _ (tb : List ℕ) (s : State ℕ) (b : ℕ) (f : Flags) where
  fits-six : (t : Option Found) (r : Rule) → fits tb s b (six_of f) t r ≡ fits tb s b f t r
  unfolding fits is_single
  fits-six t Rule.R1 = refl
  fits-six t Rule.R2 = refl
  fits-six t Rule.R3 = refl
  fits-six t Rule.R4 = refl
  fits-six t Rule.R5 = refl
  fits-six t Rule.R6 = refl
  fits-six t Rule.R7 = refl
  fits-six t Rule.R8 = refl
  fits-six t Rule.R9 = refl
  fits-six t Rule.R10 = refl
  fits-six t Rule.R11 = refl
  fits-six t Rule.R12 = refl
  fits-six t Rule.R13 = refl
  fits-six t Rule.R14 = refl
  fits-six t Rule.R15 = refl
  fits-six t Rule.R16 = refl
  fits-six t Rule.R17 = refl
  fits-six t Rule.R18 = refl

  sought-six : (g : Group) → sought_by tb s b (six_of f) g ≡ sought_by tb s b f g
  unfolding sought_by
  sought-six Group.Instance = refl
  sought-six Group.Task = refl
  sought-six Group.NotApart = refl
  sought-six Group.Apart = refl

  choose-in-six : (g : Group) → choose_in tb s b (six_of f) g ≡ choose_in tb s b f g
  unfolding choose_in
  choose-in-six g =
      rw (sought-six g)
      (ap (λ (q : Rule → Bool). record { rule = first Rule.R18 q (rules_of g); found = sought_by tb s b f g })
      (λ i r. fits-six (sought_by tb s b f g) r i))

  choose-six : choose tb s b (six_of f) ≡ choose tb s b f
  unfolding choose group_of is_apart
  choose-six = choose-in-six (group_of tb s b f)

-- ---- nor does a check, or a reason

module _ (w : ℕ) where
  -- each other bit is as it was
  bits : (bit NTK (without_no_history w) ≡ bit NTK w)
      × ((bit STP (without_no_history w) ≡ bit STP w)
      × ((bit MTK (without_no_history w) ≡ bit MTK w)
      × ((bit CTP (without_no_history w) ≡ bit CTP w)
      × ((bit RTF (without_no_history w) ≡ bit RTF w) × ((bit CTK (without_no_history w) ≡ bit CTK w) × (bit NOH (without_no_history w) ≡ 0))))))
  bits = (omega arith, (omega arith, (omega arith, (omega arith, (omega arith, (omega arith, omega arith))))))

  flags-six : flags_of (without_no_history w) ≡ six_of (flags_of w)
  unfolding flags_of
  flags-six = rw (bits.0, bits.1.0, bits.1.1.0, bits.1.1.1.0, bits.1.1.1.1.0, bits.1.1.1.1.1.0, bits.1.1.1.1.1.1)

  -- the word and its seven flags lose the same
  whole : without_no_history w + bit NOH w * NOH ≡ w
  whole = omega arith

  seven : seven_of (without_no_history w) + bit NOH w * NOH ≡ seven_of w
  seven = rw (bits.0, bits.1.0, bits.1.1.0, bits.1.1.1.0, bits.1.1.1.1.0, bits.1.1.1.1.1.0, bits.1.1.1.1.1.1) (omega arith)

  other-six : has_other_bit (without_no_history w) ≡ has_other_bit w
  unfolding has_other_bit
  other-six =
      let d = eqb-decides (seven_of (without_no_history w)) (without_no_history w) in
      ap not
      (same_test (record { holds = λ e. sym seven ∙ ap (λ (x : ℕ). x + bit NOH w * NOH) (d.holds e) ∙ whole; shows = λ e. d.shows (lose _ _ _ (seven ∙ e ∙ sym whole)) })
      (eqb-decides (seven_of w) w))
    where
      lose : (x y z : ℕ) → x + z ≡ y + z → x ≡ y
      lose x y z e = omega arith

module _ (tb : List ℕ) (s : State ℕ) (b w : ℕ) where
  -- the choice and the checks with the bit cleared
  pub chosen-six : chosen tb s b (without_no_history w) ≡ chosen tb s b w
  chosen-six = ap (choose tb s b) (flags-six w) ∙ choose-six tb s b (flags_of w)

  pub checks-six : own_checks tb s (start b (without_no_history w)) ≡ own_checks tb s (start b w)
  unfolding own_checks
  checks-six = rw (chosen-six, other-six w)

  -- so the reason of a start is the same
  pub why-six : why tb s b (without_no_history w) ≡ why tb s b w
  unfolding why refusal_of
  why-six = rw (chosen-six, checks-six)

-- ---- what a start leaves

seventh : (r : Rule) → number_of r ≡ 7 → r ≡ Rule.R7
unfolding rule_numbered rules_of
seventh r e = sym (rule-numbered r) ∙ ap rule_numbered e

-- every other rule creates a screen exactly where it pushes it or makes it new
created-rule : (e m : ℕ) (r : Rule) → (number_of r ≡ 7 → ⊥) → created_by (effect_of e m r) ≡ (if pushes_or_makes e m (number_of r) then 1 else 0)
unfolding created_by created_in effect_of reordered
created-rule e m Rule.R1 n = refl
created-rule e m Rule.R2 n = refl
created-rule e m Rule.R3 n = refl
created-rule e m Rule.R4 n = refl
created-rule e m Rule.R5 n = refl
created-rule e m Rule.R6 n = refl
created-rule e m Rule.R7 n = absurd (n refl)
created-rule e m Rule.R8 n = refl
created-rule e m Rule.R9 n = go (eqb e 7 && eqb m 1)
  where
    go : (x : Bool) → created_in (if x then Change.Renew else Change.Lift) ≡ (if x then 1 else 0)
    go true = refl
    go false = refl
created-rule e m Rule.R10 n = refl
created-rule e m Rule.R11 n = refl
created-rule e m Rule.R12 n = refl
created-rule e m Rule.R13 n = refl
created-rule e m Rule.R14 n = refl
created-rule e m Rule.R15 n = refl
created-rule e m Rule.R16 n = refl
created-rule e m Rule.R17 n = refl
created-rule e m Rule.R18 n = refl

-- R7 leaves the session
kept : (b p : ℕ) (s : State ℕ) → carry_out (eqb b) b b (effect_at s Rule.R7) p s ≡ s
unfolding carry_out change_front changed effect_of
kept b p s = ap (λ (ts : List (Stack ℕ)). record { tasks = ts; main = s.main; edition = s.edition; no_history = s.no_history }) (go s.tasks)
  where
    go : (ts : List (Stack ℕ)) → on_first (on_screens (λ xs. xs)) ts ≡ ts
    go [] = refl
    go (t ∷ ts) = refl

module _ (b w p : ℕ) (s : State ℕ) where
  flag-left : (f : Flags) (r : Rule) (finishing : Bool) → (number_of r ≡ 7 → ⊥)
      → no_history_after finishing s.no_history f.noh r (effect_at s r) ≡ (if f.noh && pushes_or_makes s.edition s.main (number_of r) then 1 else 0)
  unfolding no_history_after
  flag-left f r finishing n = rw (refuted _ (eqb-decides (number_of r) 7) n, created-rule s.edition s.main r n) (go finishing f.noh (pushes_or_makes s.edition s.main (number_of r)))
    where
      go : (finishing noh x : Bool) → (if not finishing && false then s.no_history else if noh then (if x then 1 else 0) else 0) ≡ (if noh && x then 1 else 0)
      go true true x = refl
      go true false x = refl
      go false true x = refl
      go false false x = refl

  plain-kept : start_by false (flags_of w) Rule.R7 p b s ≡ s
  unfolding caller_closes no_history_after
  plain-kept = rw (none (eqb s.no_history 1)) (ap (set_no_history s.no_history) (kept b p s))
    where
      none : (x : Bool) → (x && false) ≡ false
      none true = refl
      none false = refl

  finishing-none : (start_by true (flags_of w) Rule.R7 p b s).no_history ≡ 0
  unfolding no_history_after created_by created_in effect_of
  finishing-none = go (flags_of w).noh
    where
      go : (x : Bool) → (if x then created_in Change.Keep else 0) ≡ 0
      go true = refl
      go false = refl

  left_by : (finishing : Bool) (r : Rule) → LeavesMark finishing s w (number_of r) (start_by finishing (flags_of w) r p b s)
  left_by finishing r =
      record {
        plain_by7 = λ q e. rw (seventh r e, q) plain-kept;
        finishing_by7 = λ q e. rw (seventh r e, q) finishing-none;
        by_other = flag-left (flags_of w) r finishing;
      }

-- of the starts that are accepted, by the rule that is told
module _ (tb : List ℕ) (ok : table_refusal tb ≡ 0) (s : State ℕ) (h : Sound tb s) (b w : ℕ) (e : refusal (start_checks tb s b w) ≡ 0) where
  pub marks-by : MarksBy tb s b w (reason_of (chosen tb s b w))
  unfolding own_checks done started
  marks-by =
      let c = chosen tb s b w in
      record {
        plain = rw (settled tb ok s h (start b w), e) (left_by b w (place_of c.found) s false c.rule);
        finishing = rw (settled tb ok s h (finishing_start b w), e) (left_by b w (place_of c.found) s true c.rule);
      }

-- ---- from a marked front, and after a Back

-- the caller of a plain start closes too, and the start leaves the mark of a finishing one
caller-closes : (h : ℕ) (r : Rule) → h ≡ 1 → is_r7 r ≡ false → caller_closes false h r ≡ caller_closes true h r
unfolding caller_closes
caller-closes h r marked other = rw (marked, other)

mark-alike : (h : ℕ) (noh : Bool) (r : Rule) (d : Effect) → is_r7 r ≡ false → no_history_after false h noh r d ≡ no_history_after true h noh r d
unfolding no_history_after
mark-alike h noh r d other = rw other

-- so it makes the session of the finishing start, and closes as many screens
module _ (tb : List ℕ) (s : State ℕ) (b w : ℕ) (marked : s.no_history ≡ 1) (other : is_r7 (chosen tb s b w).rule ≡ false) where
  pub marked-done : done tb s (start b w) ≡ done tb s (finishing_start b w)
  unfolding done started
  marked-done =
      let r = (chosen tb s b w).rule in
      rw (caller-closes s.no_history r marked other, mark-alike s.no_history (flags_of w).noh r (effect_at s r) other)

  pub marked-closed : closed_of tb s (start b w) ≡ closed_of tb s (finishing_start b w)
  unfolding closed_of
  marked-closed = rw (caller-closes s.no_history (chosen tb s b w).rule marked other)

-- a screen that closes leaves no mark
pub close-clears : (p i : ℕ) (s : State ℕ) → (close p i s).no_history ≡ 0
unfolding close
close-clears p i s =
    if-elim (λ (u : State ℕ). u.no_history ≡ 0) (is_empty (task_left p i s).screens) _ _ (λ _. refl) (λ _. refl)

-- ---- images and looks

-- "Two sessions differing only in the mark must have different images and be told apart by a look."
pub record MarksApart (tb : List ℕ) : Type 0 where
  pub images : (s t : State ℕ) → sound tb s ≡ true → sound tb t ≡ true → (s.no_history ≡ t.no_history → ⊥) → image s ≡ image t → ⊥
  pub looks : (s t : State ℕ) → (s.no_history ≡ t.no_history → ⊥) → look_at s ≡ look_at t → ⊥

pub marks-apart : (tb : List ℕ) → MarksApart tb
unfolding look_at
marks-apart tb =
    record {
      images = λ s t h k differ e.
          differ (ap (λ (u : State ℕ). u.no_history) (image_injective tb s t ((sound-decides tb s).holds h) ((sound-decides tb t).holds k) e));
      looks = λ s t differ e. differ (ap (λ (a : Answer). a.no_history) e);
    }
