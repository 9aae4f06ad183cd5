-- The mean in tenths: rounded to the nearest, halves to the even neighbour, and small.
use Prim.Native.Nat.{ℕ, zero, suc, ◌+◌, ◌-◌, ◌*◌, ◌/◌, ◌%◌, ◌≤◌, ◌<◌}
use mathlib.Core.Path.{◌≡◌, refl, ◌∙◌, ap}
use mathlib.Core.Bool.{Bool, true, false}
use native.Mathlib.Omega.{arith}
use native.Mathlib.Nat.{div-add-mod', mod-lt, div-lt_iff_lt-mul, add-mul, one-mul, le_antisymm, le-mul_of_pos_right}
use lib.Dec.{eqb, ltb}
use borrow.Author.Tests.{ltb-true, ltb-false, eqb-true, eqb-false}
use Rattle.std.specs.Prelude.{if◌then◌else◌}
use Rattle.tally.specs.Tallied.{half_to_even, mean_tenths, IsRounded, RoundsHalfToEven}

-- ---- one step up

up-mul : (q n : ℕ) → (q + 1) * n ≡ q * n + n
up-mul q n = add-mul q 1 n ∙ ap (λ (m : ℕ). q * n + m) (one-mul n)

-- ---- the number found is so rounded: q whole tenths, and r left behind them

module _ (sum n q r : ℕ) (less : r < n) (parts : q * n + r ≡ 10 * sum) where
  below_half : 2 * r < n → IsRounded sum n q
  below_half l = record { near = omega arith; even = λ e. absurd (omega arith) }

  above_half : n < 2 * r → IsRounded sum n (q + 1)
  above_half l = let u = up-mul q n in record { near = omega arith; even = λ e. absurd (omega arith) }

  at-even : 2 * r ≡ n → q % 2 ≡ 0 → IsRounded sum n q
  at-even h e = record { near = omega arith; even = λ _. e }

  at-odd : 2 * r ≡ n → (q % 2 ≡ 0 → ⊥) → IsRounded sum n (q + 1)
  at-odd h f = let u = up-mul q n in record { near = omega arith; even = λ _. omega arith }

  so-rounded : (b c d : Bool) → ltb (2 * r) n ≡ b → ltb n (2 * r) ≡ c → eqb (q % 2) 0 ≡ d
      → IsRounded sum n (if b then q else if c then q + 1 else if d then q else q + 1)
  so-rounded true c d e f g = below_half (ltb-true _ _ e)
  so-rounded false true d e f g = above_half (ltb-true _ _ f)
  so-rounded false false true e f g = at-even (le_antisymm (ltb-false n (2 * r) f) (ltb-false (2 * r) n e)) (eqb-true _ _ g)
  so-rounded false false false e f g = at-odd (le_antisymm (ltb-false n (2 * r) f) (ltb-false (2 * r) n e)) (eqb-false _ _ g)

mean-rounded : (sum n : ℕ) → 1 ≤ n → IsRounded sum n (mean_tenths sum n)
unfolding mean_tenths
mean-rounded sum zero l = absurd (omega arith)
mean-rounded sum (suc n) l =
    so-rounded sum (suc n) (10 * sum / suc n) (10 * sum % suc n) (mod-lt (10 * sum) (omega arith)) (div-add-mod' (10 * sum) (suc n)) _ _ _ refl refl refl

-- ---- and no other

-- two that are so rounded would be neighbours, both half a tenth away and both even
none_above : (sum n p q : ℕ) → 1 ≤ n → IsRounded sum n p → IsRounded sum n q → p < q → ⊥
none_above sum n p q l f g h =
    let k = q - (p + 1) in
    let near = f.near in
    let far = g.near in
    let u = up-mul p n in
    let v : q * n ≡ (p + 1) * n + k * n = ap (λ (m : ℕ). m * n) (whole p q h) ∙ add-mul (p + 1) k n in
    let w = le-mul_of_pos_right {m = n} k l in
    let z : k ≡ 0 = omega arith in
    let x = f.even (omega arith) in
    let y = g.even (omega arith) in
    omega arith
  where
    whole : (p q : ℕ) → p < q → q ≡ (p + 1) + (q - (p + 1))
    whole p q h = omega arith

only : (sum n p q : ℕ) → 1 ≤ n → IsRounded sum n p → IsRounded sum n q → p ≡ q
only sum n p q l f g = go (ltb p q) (ltb q p) refl refl
  where
    go : (b c : Bool) → ltb p q ≡ b → ltb q p ≡ c → p ≡ q
    go true c e d = absurd (none_above sum n p q l f g (ltb-true _ _ e))
    go false true e d = absurd (none_above sum n q p l g f (ltb-true _ _ d))
    go false false e d = let a = ltb-false p q e in let b = ltb-false q p d in omega arith

pub rounds-half-to-even : RoundsHalfToEven
rounds-half-to-even = record { rounded = mean-rounded; only = λ sum n p l h. only sum n p _ l h (mean-rounded sum n l) }

-- ---- by the tests that code makes

pub mean-none : (sum n : ℕ) → n ≡ 0 → 0 ≡ mean_tenths sum n
unfolding mean_tenths
mean-none sum n e = rw e

pub mean-some : (sum n : ℕ) → (n ≡ 0 → ⊥) → half_to_even (10 * sum) n ≡ mean_tenths sum n
unfolding mean_tenths
mean-some sum zero f = absurd (f refl)
mean-some sum (suc n) f = refl

-- the mean of heights up to 32 is at most 32, so it fits
pub half-small : (x n : ℕ) → 1 ≤ n → x ≤ 320 * n → half_to_even x n < 65536
half-small x n f l = go (ltb (2 * (x % n)) n) (ltb n (2 * (x % n))) (eqb (x / n % 2) 0)
  where
    low : x / n < 321
    low = (div-lt_iff_lt-mul {k = n} {x = x} {y = 321} f).1 (omega arith)

    go : (b c d : Bool) → (if b then x / n else if c then x / n + 1 else if d then x / n else x / n + 1) < 65536
    go true c d = omega (arith, low)
    go false true d = omega (arith, low)
    go false false true = omega (arith, low)
    go false false false = omega (arith, low)
