-- The words of the seven flags, and the fillings of what is not known; what is known more; and the No-History bit set or cleared.
use Prim.Native.Nat.{ℕ, zero, suc, ◌+◌, ◌*◌, ◌/◌, ◌%◌, ◌^◌, ◌≤◌, ◌<◌, min, max}
use mathlib.Core.Path.{◌≡◌, refl, sym, ◌∙◌, ap, ap₂}
use mathlib.Core.Bool.{true, false, not}
use native.Mathlib.Nat.{pow-suc}
use native.Mathlib.Omega.{arith}
use lib.Dec.{eqb}
use lib.Bits.{bit_and, bit_or, or_step, and_step, and_zero_l, and_zero_r, or_zero_l, and_comm, and_le_r, and_self, and_high}
use borrow.Author.Tests.{eqb-true, eq-eqb, not-true, not-false}
use Rattle.model.specs.Lists.{all_below}
use Rattle.model.specs.Flags.{NTK, STP, MTK, CTP, RTF, CTK, NOH, bit, seven_of, has_other_bit}
use Rattle.model.specs.NoHistory.{without_no_history}
use Rattle.model.proofs.Logic.{eqb-decides, and_left, and_right}
use Rattle.model.proofs.Walks.{below-decides}
use Rattle.flags.proofs.Masks.{SEVEN, seven}
use Rattle.fronts.specs.Fronts.{is_known, Filling, seven_words, word_at}

-- ---- the words of the seven

-- by computing, of each of the 128
pub word-seven : (i : ℕ) → i < seven_words → has_other_bit (word_at i) ≡ false
unfolding has_other_bit word_at
word-seven i l =
    ap not (eq-eqb (seven_of (word_at i)) (word_at i)
    ((below-decides (λ (x : ℕ). eqb-decides (seven_of (word_at x)) (word_at x)) seven_words).holds refl i l))

-- the digit d of weight m in i, with l below it and r above
at2 : (i l d r : ℕ) → i ≡ l + 2 * d + 4 * r → l < 2 → d ≤ 1 → i / 2 % 2 ≡ d
at2 i l d r e low h = omega arith

at4 : (i l d r : ℕ) → i ≡ l + 4 * d + 8 * r → l < 4 → d ≤ 1 → i / 4 % 2 ≡ d
at4 i l d r e low h = omega arith

at8 : (i l d r : ℕ) → i ≡ l + 8 * d + 16 * r → l < 8 → d ≤ 1 → i / 8 % 2 ≡ d
at8 i l d r e low h = omega arith

at16 : (i l d r : ℕ) → i ≡ l + 16 * d + 32 * r → l < 16 → d ≤ 1 → i / 16 % 2 ≡ d
at16 i l d r e low h = omega arith

at32 : (i l d r : ℕ) → i ≡ l + 32 * d + 64 * r → l < 32 → d ≤ 1 → i / 32 % 2 ≡ d
at32 i l d r e low h = omega arith

at64 : (i l d r : ℕ) → i ≡ l + 64 * d + 128 * r → l < 64 → d ≤ 1 → i / 64 % 2 ≡ d
at64 i l d r e low h = omega arith

-- the index of seven digits
indexed : (a b c d e f g : ℕ) → a ≤ 1 → b ≤ 1 → c ≤ 1 → d ≤ 1 → e ≤ 1 → f ≤ 1 → g ≤ 1
    → word_at (a + 2 * b + 4 * c + 8 * d + 16 * e + 32 * f + 64 * g) ≡ a * NTK + b * STP + c * MTK + d * CTP + e * RTF + f * CTK + g * NOH
unfolding word_at
indexed a b c d e f g la lb lc ld le lf lg =
    let i : ℕ = a + 2 * b + 4 * c + 8 * d + 16 * e + 32 * f + 64 * g in
    let ea : i % 2 ≡ a = omega arith in
    let eb = at2 i a b (c + 2 * d + 4 * e + 8 * f + 16 * g) (omega arith) (omega arith) lb in
    let ec = at4 i (a + 2 * b) c (d + 2 * e + 4 * f + 8 * g) (omega arith) (omega arith) lc in
    let ed = at8 i (a + 2 * b + 4 * c) d (e + 2 * f + 4 * g) (omega arith) (omega arith) ld in
    let ee = at16 i (a + 2 * b + 4 * c + 8 * d) e (f + 2 * g) (omega arith) (omega arith) le in
    let ef = at32 i (a + 2 * b + 4 * c + 8 * d + 16 * e) f g (omega arith) (omega arith) lf in
    let eg = at64 i (a + 2 * b + 4 * c + 8 * d + 16 * e + 32 * f) g 0 (omega arith) (omega arith) lg in
    rw (ea, eb, ec, ed, ee, ef, eg) (omega arith)

bit-most : (m w : ℕ) → w / m % 2 ≤ 1
bit-most m w = omega arith

-- a word of the seven has an index
pub record Index (f : ℕ) : Type 0 where
  pub index : ℕ
  pub below : index < seven_words
  pub word : word_at index ≡ f

pub seven-index : (f : ℕ) → has_other_bit f ≡ false → Index f
unfolding has_other_bit
seven-index f h =
    let e = eqb-true (seven_of f) f (not-false _ h) in
    record {
      index = bit NTK f + 2 * bit STP f + 4 * bit MTK f + 8 * bit CTP f + 16 * bit RTF f + 32 * bit CTK f + 64 * bit NOH f;
      below =
          omega (arith, bit-most NTK f, bit-most STP f, bit-most MTK f, bit-most CTP f, bit-most RTF f, bit-most CTK f, bit-most NOH f);
      word =
          indexed (bit NTK f) (bit STP f) (bit MTK f) (bit CTP f) (bit RTF f) (bit CTK f) (bit NOH f)
          (bit-most NTK f) (bit-most STP f) (bit-most MTK f) (bit-most CTP f) (bit-most RTF f) (bit-most CTK f) (bit-most NOH f)
          ∙ e;
    }

-- what holds of each of the 128 by computing holds of every word of the seven
each : (m n : ℕ → ℕ) → all_below seven_words (λ i. eqb (m (word_at i)) (n (word_at i))) ≡ true → (f : ℕ) → has_other_bit f ≡ false → m f ≡ n f
each m n e f h =
    let x = seven-index f h in
    rw x.word at
    ((below-decides (λ (i : ℕ). eqb-decides (m (word_at i)) (n (word_at i))) seven_words).holds e x.index x.below)

-- ---- masks

and_assoc : (k a b c : ℕ) → a < 2 ^ k → bit_and (bit_and a b) c ≡ bit_and a (bit_and b c)
and_assoc zero a b c l =
    let z : a ≡ 0 = omega arith in
    rw z (ap (λ (x : ℕ). bit_and x c) (and_zero_l b) ∙ and_zero_l c ∙ sym (and_zero_l (bit_and b c)))
and_assoc (suc k) a b c l =
    let e : bit_and a b / 2 ≡ bit_and (a / 2) (b / 2) = omega (arith, and_step a b) in
    let f : bit_and b c / 2 ≡ bit_and (b / 2) (c / 2) = omega (arith, and_step b c) in
    let g : bit_and a b % 2 ≡ min (a % 2) (b % 2) = omega (arith, and_step a b) in
    let h : bit_and b c % 2 ≡ min (b % 2) (c % 2) = omega (arith, and_step b c) in
    let left = rw (e, g) at (and_step (bit_and a b) c) in
    let right = rw (f, h) at (and_step a (bit_and b c)) in
    omega (arith, left, right, and_assoc k (a / 2) (b / 2) (c / 2) (omega (arith, l, pow-suc 2 k)))

seven-word : (f : ℕ) → has_other_bit f ≡ false → f < 2 ^ 32
unfolding has_other_bit
seven-word f h = omega (arith, eqb-true (seven_of f) f (not-false _ h))

-- a filling of what is known more is one of what is known less
pub fills-less : (mask value mask' value' f : ℕ) → bit_and mask' mask ≡ mask → bit_and value' mask ≡ value → Filling mask' value' f → Filling mask value f
fills-less mask value mask' value' f m v h =
    record {
      seven = h.seven;
      known =
          ap (bit_and f) (sym m) ∙ sym (and_assoc 32 f mask' mask (seven-word f h.seven))
          ∙ ap (λ (x : ℕ). bit_and x mask) h.known ∙ v;
    }

-- ---- the No-History bit

and-or : (k a b c : ℕ) → c < 2 ^ k → bit_and (bit_or a b) c ≡ bit_or (bit_and a c) (bit_and b c)
and-or zero a b c l =
    let z : c ≡ 0 = omega arith in
    rw (z, and_zero_r (bit_or a b), and_zero_r a, and_zero_r b) (sym (or_zero_l 0))
and-or (suc k) a b c l =
    let e : bit_or a b / 2 ≡ bit_or (a / 2) (b / 2) = omega (arith, or_step a b) in
    let f : bit_and a c / 2 ≡ bit_and (a / 2) (c / 2) = omega (arith, and_step a c) in
    let g : bit_and b c / 2 ≡ bit_and (b / 2) (c / 2) = omega (arith, and_step b c) in
    let e' : bit_or a b % 2 ≡ max (a % 2) (b % 2) = omega (arith, or_step a b) in
    let f' : bit_and a c % 2 ≡ min (a % 2) (c % 2) = omega (arith, and_step a c) in
    let g' : bit_and b c % 2 ≡ min (b % 2) (c % 2) = omega (arith, and_step b c) in
    let left = rw (e, e') at (and_step (bit_or a b) c) in
    let right = rw (f, f', g, g') at (or_step (bit_and a c) (bit_and b c)) in
    omega (arith, left, right, and-or k (a / 2) (b / 2) (c / 2) (omega (arith, l, pow-suc 2 k)))

-- all of the seven but that one
abbrev pub six_flags : ℕ
six_flags = NTK + STP + MTK + CTP + RTF + CTK

module _ (f : ℕ) (h : has_other_bit f ≡ false) where
  whole_word : bit_and f (bit_or six_flags NOH) ≡ f
  unfolding word_at
  whole_word = each (λ x. bit_and x (bit_or six_flags NOH)) (λ x. x) refl f h

  pub six-word : without_no_history f ≡ bit_and f six_flags
  unfolding word_at
  six-word = each without_no_history (λ x. bit_and x six_flags) refl f h

  pub six-seven : has_other_bit (bit_and f six_flags) ≡ false
  unfolding word_at has_other_bit
  six-seven = ap not (eq-eqb _ _ (each (λ x. seven_of (bit_and x six_flags)) (λ x. bit_and x six_flags) refl f h))

-- the word f with the No-History bit of value
abbrev pub with_bit : ℕ → ℕ → ℕ
with_bit value f = bit_or (bit_and f six_flags) (bit_and value NOH)

-- a word of the seven, and but for that bit f
module _ (value f : ℕ) (h : has_other_bit f ≡ false) where
  with-bit : (seven_of (with_bit value f) ≡ with_bit value f) × (without_no_history (with_bit value f) ≡ without_no_history f)
  unfolding word_at
  with-bit = rw (and_high value 1 30) (go (bit NOH value) (bit-most NOH value))
    where
      go : (d : ℕ) → d ≤ 1
          → (seven_of (bit_or (bit_and f six_flags) (d * NOH)) ≡ bit_or (bit_and f six_flags) (d * NOH))
          × (without_no_history (bit_or (bit_and f six_flags) (d * NOH)) ≡ without_no_history f)
      go zero l = (
        each (λ x. seven_of (bit_or (bit_and x six_flags) 0)) (λ x. bit_or (bit_and x six_flags) 0) refl f h,
        each (λ x. without_no_history (bit_or (bit_and x six_flags) 0)) without_no_history refl f h,
      )
      go (suc zero) l = (
        each (λ x. seven_of (bit_or (bit_and x six_flags) NOH)) (λ x. bit_or (bit_and x six_flags) NOH) refl f h,
        each (λ x. without_no_history (bit_or (bit_and x six_flags) NOH)) without_no_history refl f h,
      )
      go (suc (suc d)) l = absurd (omega arith)

-- where mask and value pass the check of 35
module _ (mask value : ℕ) (known : is_known mask value ≡ true) where
  mask-seven : has_other_bit mask ≡ false
  unfolding is_known
  mask-seven = not-true _ (and_left (not (has_other_bit mask)) (eqb (bit_and value mask) value) known)

  inside : bit_and value mask ≡ value
  unfolding is_known
  inside = eqb-true _ value (and_right (not (has_other_bit mask)) (eqb (bit_and value mask) value) known)

  mask_word : mask < 2 ^ 32
  mask_word = seven-word mask mask-seven

  value-word : value < 2 ^ 32
  value-word = let l = and_le_r value mask in omega (arith, rw inside at l, mask_word)

  mask-whole : bit_and mask SEVEN ≡ mask
  unfolding has_other_bit
  mask-whole = seven mask ∙ eqb-true (seven_of mask) mask (not-false _ mask-seven)

  -- value has no bit but the seven
  value-seven : has_other_bit value ≡ false
  unfolding has_other_bit
  value-seven =
      ap not (eq-eqb (seven_of value) value
      (sym (seven value) ∙ ap (λ (x : ℕ). bit_and x SEVEN) (sym inside) ∙ and_assoc 32 value mask SEVEN value-word
      ∙ ap (bit_and value) mask-whole ∙ inside))

  value-parts : bit_or (bit_and value six_flags) (bit_and value NOH) ≡ value
  value-parts =
      ap₂ bit_or (and_comm value six_flags) (and_comm value NOH) ∙ sym (and-or 32 six_flags NOH value value-word)
      ∙ and_comm (bit_or six_flags NOH) value ∙ whole_word value value-seven

  -- what is known without that bit is known less
  six-less : bit_and mask (bit_and mask six_flags) ≡ bit_and mask six_flags
  six-less = sym (and_assoc 32 mask mask six_flags mask_word) ∙ ap (λ (x : ℕ). bit_and x six_flags) (and_self mask)

  six-fits : bit_and value (bit_and mask six_flags) ≡ bit_and value six_flags
  six-fits = sym (and_assoc 32 value mask six_flags value-word) ∙ ap (λ (x : ℕ). bit_and x six_flags) inside

  six-inside : bit_and (bit_and value six_flags) (bit_and mask six_flags) ≡ bit_and value six_flags
  six-inside =
      and_assoc 32 value six_flags (bit_and mask six_flags) value-word
      ∙ ap (bit_and value) (and_comm six_flags (bit_and mask six_flags) ∙ and_assoc 32 mask six_flags six_flags mask_word ∙ ap (bit_and mask) (and_self six_flags))
      ∙ six-fits

  -- it passes the check too
  pub six-known : is_known (without_no_history mask) (without_no_history value) ≡ true
  unfolding is_known
  six-known =
      rw (six-word mask mask-seven, six-word value value-seven)
      (rw (six-seven mask mask-seven, eq-eqb (bit_and (bit_and value six_flags) (bit_and mask six_flags)) (bit_and value six_flags) six-inside) refl)

  -- a filling is one of what is known without the bit
  pub six-filling : (f : ℕ) → Filling mask value f → Filling (without_no_history mask) (without_no_history value) f
  six-filling f h =
      rw (six-word mask mask-seven, six-word value value-seven)
      (fills-less (bit_and mask six_flags) (bit_and value six_flags) mask value f six-less six-fits h)

  -- and one of that, with the bit of value, is a filling
  module _ (f : ℕ) (h : Filling (without_no_history mask) (without_no_history value) f) where
    six-part : bit_and (bit_and f six_flags) mask ≡ bit_and value six_flags
    six-part =
        and_assoc 32 f six_flags mask (seven-word f h.seven) ∙ ap (bit_and f) (and_comm six_flags mask)
        ∙ ap (bit_and f) (sym (six-word mask mask-seven)) ∙ h.known ∙ six-word value value-seven

    bit-part : bit_and (bit_and value NOH) mask ≡ bit_and value NOH
    bit-part =
        and_assoc 32 value NOH mask value-word ∙ ap (bit_and value) (and_comm NOH mask) ∙ sym (and_assoc 32 value mask NOH value-word)
        ∙ ap (λ (x : ℕ). bit_and x NOH) inside

    pub bit-filling : Filling mask value (with_bit value f)
    unfolding has_other_bit
    bit-filling =
        record {
          seven = ap not (eq-eqb (seven_of (with_bit value f)) (with_bit value f) (with-bit value f h.seven).0);
          known = and-or 32 (bit_and f six_flags) (bit_and value NOH) mask mask_word ∙ ap₂ bit_or six-part bit-part ∙ value-parts;
        }

    pub bit-same : without_no_history (with_bit value f) ≡ without_no_history f
    bit-same = (with-bit value f h.seven).1
