-- Sets as numbers: their bits, their size, and that the bits tell them apart.
use Prim.Native.Nat.{ℕ, zero, suc, ◌+◌, ◌*◌, ◌/◌, ◌%◌, ◌^◌, ◌≤◌, ◌<◌, max}
use mathlib.Core.Path.{◌≡◌, refl, sym, ◌∙◌, ap}
use mathlib.Core.Logic.{◌⊎◌, inl, inr}
use mathlib.Core.Bool.{Bool, true, false, not, ◌&&◌}
use native.Mathlib.Nat.{pow-suc, one-mul}
use native.Mathlib.Omega.{arith}
use lib.Dec.{eqb, eqb-suc-suc, eqb-suc-zero, eqb-zero-suc}
use lib.Bits.{bit_or, or_step, or_lt}
use lib.Pow.{pow-lt, shl_exact}
use lib.Count.{ones, ones_in, ones_step}
use borrow.Author.Tests.{eqb-true, eqb-false, eq-eqb, ne_eqb, not-true}
use Rattle.model.specs.declared.Answer.{Answer}
use Rattle.std.specs.Prelude.{if◌then◌else◌}
use Rattle.model.proofs.Logic.{and_left, and_right, if-elim}
use Rattle.fronts.specs.Sets.{digit, IsIn, Within, ones_among}
use Rattle.fronts.specs.Fronts.{with_screen}

-- ---- bits

digit_or : (k a b : ℕ) → digit k (bit_or a b) ≡ max (digit k a) (digit k b)
digit_or zero a b = omega (arith, or_step a b)
digit_or (suc k) a b = let e : bit_or a b / 2 ≡ bit_or (a / 2) (b / 2) = omega (arith, or_step a b) in rw e (digit_or k (a / 2) (b / 2))

pub digit-zero : (k : ℕ) → digit k 0 ≡ 0
digit-zero zero = refl
digit-zero (suc k) = digit-zero k

digit-most : (k n : ℕ) → digit k n ≤ 1
digit-most zero n = omega arith
digit-most (suc k) n = digit-most k (n / 2)

digit-power : (k x : ℕ) → digit k (2 ^ x) ≡ (if eqb k x then 1 else 0)
digit-power zero zero = refl
digit-power zero (suc x) = rw (eqb-zero-suc x) (omega (arith, pow-suc 2 x))
digit-power (suc k) zero = rw (eqb-suc-zero k) (digit-zero k)
digit-power (suc k) (suc x) = let e : 2 ^ suc x / 2 ≡ 2 ^ x = omega (arith, pow-suc 2 x) in rw (e, eqb-suc-suc k x) (digit-power k x)

-- the one set's bit is at most the other's
digit-within : (few many : ℕ) → Within few many → (k : ℕ) → digit k few ≤ digit k many
digit-within few many h k = go (digit k few) refl (digit-most k few)
  where
    go : (n : ℕ) → digit k few ≡ n → n ≤ 1 → n ≤ digit k many
    go zero e l = omega arith
    go (suc zero) e l = omega (arith, h k e)
    go (suc (suc n)) e l = absurd (omega arith)

-- ---- how many

ones-within : (n few many : ℕ) → ((k : ℕ) → digit k few ≤ digit k many) → ones_among n few ≤ ones_among n many
unfolding ones_among
ones-within zero few many h = omega arith
ones-within (suc n) few many h = omega (arith, h 0, ones-within n (few / 2) (many / 2) (λ k. h (suc k)))

pub size-within : (n few many : ℕ) → Within few many → ones_among n few ≤ ones_among n many
size-within n few many h = ones-within n few many (digit-within few many h)

half-less : (n x : ℕ) → x < 2 ^ suc n → x / 2 < 2 ^ n
half-less n x l = omega (arith, l, pow-suc 2 n)

pub ones-most : (n set : ℕ) → ones_among n set ≤ n
unfolding ones_among
ones-most zero set = omega arith
ones-most (suc n) set = omega (arith, ones-most n (set / 2))

-- the language's count of ones
pub ones-counted : (n x : ℕ) → x < 2 ^ n → ones x ≡ ones_among n x
unfolding ones_among ones ones_in
ones-counted zero x l = let z : x ≡ 0 = omega arith in rw z refl
ones-counted (suc n) x l = ones_step x ∙ ap (λ (m : ℕ). x % 2 + m) (ones-counted n (x / 2) (half-less n x l))

-- ---- sets with the same screens are equal

digits_same : (n x y : ℕ) → x < 2 ^ n → y < 2 ^ n → ((k : ℕ) → digit k x ≡ digit k y) → x ≡ y
digits_same zero x y l m h = omega arith
digits_same (suc n) x y l m h = omega (arith, h 0, digits_same n (x / 2) (y / 2) (half-less n x l) (half-less n y m) (λ k. h (suc k)))

pub sets_same : (n x y : ℕ) → x < 2 ^ n → y < 2 ^ n → Within x y → Within y x → x ≡ y
sets_same n x y l m few many = digits_same n x y l m (λ k. omega (arith, digit-within x y few k, digit-within y x many k))

-- ---- a set with a screen

-- an answer that shows this front screen
pub record Shows (a : Answer) (k : ℕ) : Type 0 where
  pub accepted : a.refusal ≡ 0
  pub some : 1 ≤ a.tasks
  pub screen : a.screen ≡ k

module _ (set : ℕ) (a : Answer) where
  abbrev shows : Bool
  shows = eqb a.refusal 0 && not (eqb a.tasks 0)

  pub with_none : (a.refusal ≡ 0 → ⊥) → with_screen set a ≡ set
  with_none h = rw (ne_eqb a.refusal 0 h)

  pub with-empty : a.tasks ≡ 0 → with_screen set a ≡ set
  with-empty e = rw e (go (eqb a.refusal 0))
    where
      go : (t : Bool) → (if t && false then bit_or set (2 ^ a.screen) else set) ≡ set
      go true = refl
      go false = refl

  pub with-one : a.refusal ≡ 0 → (a.tasks ≡ 0 → ⊥) → with_screen set a ≡ bit_or set (2 ^ a.screen)
  with-one e h = rw (e, ne_eqb a.tasks 0 h)

  -- as code shifts
  pub with_shift : a.refusal ≡ 0 → (a.tasks ≡ 0 → ⊥) → a.screen < 64 → bit_or set (1 * 2 ^ a.screen % 2 ^ 64) ≡ with_screen set a
  with_shift e h l = ap (bit_or set) (shl_exact 1 a.screen 64 (omega arith) (omega (arith, l)) ∙ one-mul (2 ^ a.screen)) ∙ sym (with-one e h)

  pub with-shown : (k : ℕ) → Shows a k → IsIn k (with_screen set a)
  with-shown k h =
      let o : digit k (2 ^ a.screen) ≡ 1 = digit-power k a.screen ∙ rw (eq-eqb k a.screen (sym h.screen)) in
      rw (with-one h.accepted (λ e. omega (arith, h.some, e)))
      (omega (arith, digit_or k set (2 ^ a.screen), o, digit-most k set))

  pub with-grows : Within set (with_screen set a)
  with-grows k e =
      if-elim (IsIn k) shows (bit_or set (2 ^ a.screen)) set
      (λ _. omega (arith, digit_or k set (2 ^ a.screen), e, digit-most k (2 ^ a.screen))) (λ _. e)

  shown : shows ≡ true → Shows a a.screen
  shown t =
      record {
        accepted = eqb-true a.refusal 0 (and_left (eqb a.refusal 0) (not (eqb a.tasks 0)) t);
        some = go a.tasks (eqb-false a.tasks 0 (not-true (eqb a.tasks 0) (and_right (eqb a.refusal 0) (not (eqb a.tasks 0)) t)));
        screen = refl;
      }
    where
      go : (n : ℕ) → (n ≡ 0 → ⊥) → 1 ≤ n
      go zero h = absurd (h refl)
      go (suc n) h = omega arith

  pub with-only : (k : ℕ) → IsIn k (with_screen set a) → IsIn k set ⊎ Shows a k
  with-only k =
      if-elim (λ (x : ℕ). IsIn k x → IsIn k set ⊎ Shows a k) shows (bit_or set (2 ^ a.screen)) set
      (λ t e. go t e (eqb k a.screen) refl) (λ _ e. inl e)
    where
      go : shows ≡ true → IsIn k (bit_or set (2 ^ a.screen)) → (q : Bool) → eqb k a.screen ≡ q → IsIn k set ⊎ Shows a k
      go t e true f = inr (rw (eqb-true k a.screen f) (shown t))
      go t e false f =
          let z : digit k (2 ^ a.screen) ≡ 0 = digit-power k a.screen ∙ rw f in
          inl (omega (arith, digit_or k set (2 ^ a.screen), e, z, digit-most k set))

  -- 64 bits are enough where the screen is below 64
  pub with-fits : set < 2 ^ 64 → ((k : ℕ) → Shows a k → k < 64) → with_screen set a < 2 ^ 64
  with-fits l h =
      if-elim (λ (x : ℕ). x < 2 ^ 64) shows (bit_or set (2 ^ a.screen)) set
      (λ t. or_lt 64 set (2 ^ a.screen) l (pow-lt (h a.screen (shown t)))) (λ _. l)
