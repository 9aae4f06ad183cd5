-- Masks and digits: a word under the mask of one bit is the digit of that weight, and under the sum of masks that have
-- no bit in common the sum of what it is under each. So the word is the seven flags and what lies outside them.
use Prim.Native.Nat.{ℕ, zero, suc, ◌+◌, ◌*◌, ◌-◌, ◌/◌, ◌%◌, ◌^◌, ◌<◌, min}
use mathlib.Core.Path.{◌≡◌, refl, sym, ◌∙◌, ap, ap₂}
use mathlib.Core.Bool.{not}
use native.Mathlib.Nat.{zero-mul, one-mul, mod-eq_of_lt}
use native.Mathlib.Omega.{arith}
use lib.Dec.{eqb}
use lib.Arith.{bin_ind}
use lib.Pow.{pow_pos}
use lib.Bits.{bit_and, and_step, and_high, and_mask}
use borrow.Author.Tests.{ne_eqb}
use Rattle.model.specs.Flags.{NTK, STP, MTK, CTP, RTF, CTK, NOH, bit, seven_of, has_other_bit}
use Rattle.model.proofs.Logic.{same_test, eqb-decides}

-- ---- masks that have no bit in common

-- the lowest digit and the others of two masks, where not both have the lowest
apart-digit : (n a b : ℕ) → min (a % 2) (b % 2) ≡ 0 → min (n % 2) ((a + b) % 2) ≡ min (n % 2) (a % 2) + min (n % 2) (b % 2)
apart-digit n a b e = omega arith

apart-half : (a b : ℕ) → min (a % 2) (b % 2) ≡ 0 → (a + b) / 2 ≡ a / 2 + b / 2
apart-half a b e = omega arith

sum : (x y z p q r : ℕ) → x ≡ y + z → p ≡ q + r → x * 2 + p ≡ (y * 2 + q) + (z * 2 + r)
sum x y z p q r e f = omega arith

both_zero : (x y : ℕ) → x * 2 + y ≡ 0 → (x ≡ 0) × (y ≡ 0)
both_zero x y e = (omega arith, omega arith)

-- a word under the sum of two masks
pub and-apart : (w a b : ℕ) → bit_and a b ≡ 0 → bit_and w (a + b) ≡ bit_and w a + bit_and w b
and-apart w =
    bin_ind (λ (n : ℕ). (a b : ℕ) → bit_and a b ≡ 0 → bit_and n (a + b) ≡ bit_and n a + bit_and n b) (λ a b e. refl)
    (λ n ih a b e.
    let z = both_zero (bit_and (a / 2) (b / 2)) (min (a % 2) (b % 2)) (sym (and_step a b) ∙ e) in
    and_step n (a + b)
    ∙ sum (bit_and (n / 2) ((a + b) / 2)) (bit_and (n / 2) (a / 2)) (bit_and (n / 2) (b / 2)) (min (n % 2) ((a + b) % 2))
    (min (n % 2) (a % 2)) (min (n % 2) (b % 2))
    (ap (bit_and (n / 2)) (apart-half a b z.1) ∙ ih (a / 2) (b / 2) z.0) (apart-digit n a b z.1)
    ∙ sym (ap₂ ◌+◌ (and_step n a) (and_step n b)))
    w

-- ---- one flag

digit : (x p : ℕ) → x < 2 → 0 < p → not (eqb (x * p) 0) ≡ eqb x 1
digit zero p h q = rw (zero-mul p)
digit (suc zero) p h q = rw (one-mul p, ne_eqb p 0 (λ e. omega arith))
digit (suc (suc x)) p h q = absurd (omega arith)

-- under the mask of bit k a word is not 0 exactly where that bit is set
pub flag : (w k : ℕ) → not (eqb (bit_and w (2 ^ (1 + k) - 2 ^ k)) 0) ≡ eqb (bit (2 ^ k) w) 1
flag w k = rw (and_high w 1 k) (digit (bit (2 ^ k) w) (2 ^ k) (omega arith) (pow_pos k))

-- ---- the seven and the others

abbrev pub SEVEN : ℕ
SEVEN = NTK + STP + MTK + CTP + RTF + CTK + NOH

-- all bits but the seven
abbrev OTHERS : ℕ
OTHERS = 0xFFFFFFFF - SEVEN

-- a word under the mask of the seven
pub seven : (w : ℕ) → bit_and w SEVEN ≡ seven_of w
seven w =
    and-apart w (NTK + STP + MTK + CTP + RTF + CTK) NOH refl
    ∙ ap₂ ◌+◌ (and-apart w (NTK + STP + MTK + CTP + RTF) CTK refl
    ∙ ap₂ ◌+◌ (and-apart w (NTK + STP + MTK + CTP) RTF refl
    ∙ ap₂ ◌+◌ (and-apart w (NTK + STP + MTK) CTP refl
    ∙ ap₂ ◌+◌ (and-apart w (NTK + STP) MTK refl
    ∙ ap₂ ◌+◌ (and-apart w NTK STP refl
    ∙ ap₂ ◌+◌ (and_high w 1 28) (and_high w 1 29)) (and_high w 1 27)) (and_high w 1 26)) (and_high w 1 17)) (and_high w 1 15)) (and_high w 1 30)

whole : (w : ℕ) → w < 2 ^ 32 → bit_and w OTHERS + seven_of w ≡ w
whole w h =
    ap (λ (x : ℕ). bit_and w OTHERS + x) (sym (seven w)) ∙ sym (and-apart w OTHERS SEVEN refl) ∙ and_mask w 32 ∙ mod-eq_of_lt h

none_left : {x y w : ℕ} → x + y ≡ w → x ≡ 0 → y ≡ w
none_left e q = omega arith

all_left : {x y w : ℕ} → x + y ≡ w → y ≡ w → x ≡ 0
all_left e q = omega arith

-- under the mask of the others a word is not 0 exactly where the seven do not make it up
pub other : (w : ℕ) → w < 2 ^ 32 → not (eqb (bit_and w OTHERS) 0) ≡ has_other_bit w
unfolding has_other_bit
other w h =
    let d = eqb-decides (seven_of w) w in
    ap not (same_test (eqb-decides (bit_and w OTHERS) 0)
    (record { holds = λ e. all_left (whole w h) (d.holds e); shows = λ e. d.shows (none_left (whole w h) e) }))
