-- Document 02, request 12, "Recordings with flags missing": which screens could be in front after a plain start of which some flag
-- bits are not known.
use Rattle.std.specs.Prelude.{ℕ, zero, suc, ◌+◌, ◌*◌, ◌/◌, ◌%◌, ◌^◌, ◌≤◌, ◌≡◌, ◌↔◌, Bool, false, not, ◌&&◌, List, [], ◌∷◌, eqb, ltb, if◌then◌else◌}
use Rattle.std.specs.Int.Bits.{bit_and, bit_or}
use Rattle.model.specs.declared.Answer.{Answer}
use Rattle.model.specs.Refusals.{Check, check, refusal}
use Rattle.model.specs.Table.{size_of as screens_of}
use Rattle.model.specs.Session.{front_screen, count}
use Rattle.model.specs.Flags.{NTK, STP, MTK, CTP, RTF, CTK, NOH, has_other_bit}
use Rattle.model.specs.Calls.{start, checks_in}
use Rattle.model.specs.NoHistory.{without_no_history}
use Rattle.session.specs.declared.Session.{Session}
use Rattle.session.specs.Stored.{view, sound_stored}
use Rattle.calls.specs.declared.Reply.{Reply}
use Rattle.calls.specs.StoredCalls.{call_stored}
use Rattle.fronts.specs.declared.FrontSet.{FrontSet}
use Rattle.fronts.specs.Sets.{IsIn, Within, size_of}

-- a set with the front screen that an answer shows, if it is accepted and shows one
abbrev pub with_screen : ℕ → Answer → ℕ
with_screen set a = if eqb a.refusal 0 && not (eqb a.tasks 0) then bit_or set (2 ^ a.screen) else set

-- ---- fillings

-- not "35 .. for a mask bit outside the seven or a value bit outside the mask"
unfoldable pub is_known : ℕ → ℕ → Bool
is_known mask value = not (has_other_bit mask) && eqb (bit_and value mask) value

-- "some filling of the unknown bits among the seven": a word of the seven that has the known values
pub record Filling (mask value f : ℕ) : Type 0 where
  pub seven : has_other_bit f ≡ false
  pub known : bit_and f mask ≡ value

-- the words of the seven, by an index below 128: each binary digit of it is a flag
abbrev pub seven_words : ℕ
seven_words = 128

unfoldable pub word_at : ℕ → ℕ
word_at i =
    (i % 2 * NTK + i / 2 % 2 * STP + i / 4 % 2 * MTK)
    + (i / 8 % 2 * CTP + i / 16 % 2 * RTF + i / 32 % 2 * CTK + i / 64 % 2 * NOH)

module _ (tb : List ℕ) (c : Session) (b : ℕ) where
  -- what a plain start of b with the flag word f gives
  abbrev pub start_of : ℕ → Reply
  start_of f = call_stored tb c (start b f)

  -- "is accepted and brings it to the front"; "a start that empties it brings none"
  pub record Brings (f k : ℕ) : Type 0 where
    pub accepted : (start_of f).answer.refusal ≡ 0
    pub some : 1 ≤ count (view (start_of f).session)
    pub front : front_screen (view (start_of f).session) ≡ k

  -- "A screen is in the set exactly when some filling of the unknown bits among the seven is accepted and brings it to the front."
  pub record CouldBe (mask value k : ℕ) : Type 0 where
    pub word : ℕ
    pub filling : Filling mask value word
    pub brings : Brings word k

  abbrev pub SetExactly : ℕ → ℕ → ℕ → Type 0
  SetExactly mask value set = (k : ℕ) → IsIn k set ↔ CouldBe mask value k

  -- ---- the set

  -- a set with the screen that the word f brings to the front, if it brings one
  unfoldable pub with_front : ℕ → ℕ → ℕ
  with_front set f = with_screen set (start_of f).answer

  -- the screens that those of the first n words bring to the front that have the known values
  unfoldable pub fronts_among : ℕ → ℕ → ℕ → ℕ
  fronts_among mask value zero = 0
  fronts_among mask value (suc n) =
      if eqb (bit_and (word_at n) mask) value then with_front (fronts_among mask value n) (word_at n) else fronts_among mask value n

  abbrev pub front_set : ℕ → ℕ → ℕ
  front_set mask value = fronts_among mask value seven_words

-- ---- checks

-- "35, after 3": 3 is a start's
abbrev pub known_checks : List ℕ → ℕ → ℕ → ℕ → List Check
known_checks tb b mask value = check 3 (not (ltb b (screens_of tb))) ∷ check 35 (not (is_known mask value)) ∷ []

-- 1, 2 and 20 come first
unfoldable pub fronts_refusal : List ℕ → Session → ℕ → ℕ → ℕ → ℕ
fronts_refusal tb c b mask value = refusal (checks_in tb (sound_stored tb c) (known_checks tb b mask value))

-- "a refusal's set and count are 0"
abbrev pub refused_set : ℕ → FrontSet
refused_set k = record { set = 0; refusal = k; count = 0 }

abbrev pub settle_set : ℕ → ℕ → FrontSet
settle_set zero set = record { set = set; refusal = 0; count = size_of set }
settle_set (suc k) set = refused_set (suc k)

unfoldable pub fronts_stored : List ℕ → Session → ℕ → ℕ → ℕ → FrontSet
fronts_stored tb c b mask value = settle_set (fronts_refusal tb c b mask value) (front_set tb c b mask value)

-- ---- what more is promised of the set r that is told where this mask and these values are known

module _ (tb : List ℕ) (c : Session) (b mask value : ℕ) (r : FrontSet) where
  -- "Knowing more bits never adds a screen."
  abbrev pub KnowingMore : Type 0
  KnowingMore =
      (mask' value' : ℕ) → bit_and mask' mask ≡ mask → bit_and value' mask ≡ value → (fronts_stored tb c b mask' value').refusal ≡ 0
      → Within (fronts_stored tb c b mask' value').set r.set × ((fronts_stored tb c b mask' value').count ≤ r.count)

  -- the No-History bit, known or not, 0 or 1, changes nothing
  abbrev pub AnyNoHistory : Type 0
  AnyNoHistory = r ≡ fronts_stored tb c b (without_no_history mask) (without_no_history value)
