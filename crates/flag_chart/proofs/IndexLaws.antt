-- The index of a mode, a caller and flags: its digits are these, and each index is made of its own.
use Prim.Native.Nat.{ℕ, zero, suc, ◌+◌, ◌*◌, ◌/◌, ◌≤◌, ◌<◌}
use mathlib.Core.Path.{◌≡◌, sym}
use mathlib.Core.Bool.{Bool, true, false}
use native.Mathlib.Nat.{mul-one, mul-zero, mod-lt}
use native.Mathlib.Omega.{arith}
use lib.Dec.{eqb}
use borrow.Author.Tests.{lt-ltb}
use Rattle.model.specs.declared.Flags.{Flags}
use Rattle.model.specs.Flags.{bit}
use Rattle.flag_chart.specs.Chart.{worth, chart_rule, index_of, mode_in, apart_caller_in, flags_in, entry_at, IndexesChart}

-- ---- one digit

unfoldable pub digit : Bool → ℕ
digit t = worth 1 t

pub worth-digit : (n : ℕ) (t : Bool) → worth n t ≡ n * digit t
unfolding digit
worth-digit n true = sym (mul-one n)
worth-digit n false = sym (mul-zero n)

pub digit-most : (t : Bool) → digit t ≤ 1
unfolding digit
digit-most true = omega arith
digit-most false = omega arith

-- the test of a digit is what it was made of
pub digit-test : (t : Bool) {b : ℕ} → b ≡ digit t → eqb b 1 ≡ t
unfolding digit
digit-test true e = rw e
digit-test false e = rw e

-- and a digit is made of its test
test-worth : (n b : ℕ) → b < 2 → worth n (eqb b 1) ≡ n * b
test-worth n zero l = sym (mul-zero n)
test-worth n (suc zero) l = sym (mul-one n)
test-worth n (suc (suc b)) l = absurd (omega arith)

-- ---- all of them

-- an index is a sum of eight digits
pub record Digits (i m a n s k p r c : ℕ) : Type 0 where
  pub sum : i ≡ m * 128 + 64 * a + 32 * n + 16 * s + 8 * k + 4 * p + 2 * r + 1 * c
  pub small : (a ≤ 1) × (n ≤ 1) × (s ≤ 1) × (k ≤ 1) × (p ≤ 1) × (r ≤ 1) × (c ≤ 1)

module _ (mode : ℕ) (a : Bool) (f : Flags) where
  index-digits : Digits (index_of mode a f) mode (digit a) (digit f.ntk) (digit f.stp) (digit f.mtk) (digit f.ctp) (digit f.rtf) (digit f.ctk)
  unfolding index_of
  index-digits =
      record {
        sum = rw (worth-digit 64 a, worth-digit 32 f.ntk, worth-digit 16 f.stp, worth-digit 8 f.mtk, worth-digit 4 f.ctp, worth-digit 2 f.rtf, worth-digit 1 f.ctk);
        small = (digit-most a, digit-most f.ntk, digit-most f.stp, digit-most f.mtk, digit-most f.ctp, digit-most f.rtf, digit-most f.ctk);
      }

module _ {i m a n s k p r c : ℕ} (d : Digits i m a n s k p r c) where
  mode-digit : i / 128 ≡ m
  mode-digit = omega arith

  caller-digit : bit 64 i ≡ a
  caller-digit = omega arith

  ntk-digit : bit 32 i ≡ n
  ntk-digit = omega arith

  stp-digit : bit 16 i ≡ s
  stp-digit = omega arith

  mtk-digit : bit 8 i ≡ k
  mtk-digit = omega arith

  ctp-digit : bit 4 i ≡ p
  ctp-digit = omega arith

  rtf-digit : bit 2 i ≡ r
  rtf-digit = omega arith

  ctk-digit : bit 1 i ≡ c
  ctk-digit = omega arith

  index_below : m < 4 → i < 512
  index_below l = omega arith

index-rule : (mode : ℕ) (a : Bool) (f : Flags) → mode < 4 → entry_at (index_of mode a f) ≡ chart_rule mode a f
unfolding entry_at flags_in chart_rule
index-rule mode a f l =
    let d = index-digits mode a f in
    rw (lt-ltb _ _ (index_below d l), mode-digit d, digit-test a (caller-digit d), digit-test f.ntk (ntk-digit d), digit-test f.stp (stp-digit d), digit-test f.mtk (mtk-digit d), digit-test f.ctp (ctp-digit d), digit-test f.rtf (rtf-digit d), digit-test f.ctk (ctk-digit d))

-- halved seven times: each quotient is twice the next one and a digit
digits_sum : (i q0 q1 q2 q3 q4 q5 q6 b0 b1 b2 b3 b4 b5 b6 : ℕ) → i ≡ 2 * q0 + b0 → q0 ≡ 2 * q1 + b1 → q1 ≡ 2 * q2 + b2
    → q2 ≡ 2 * q3 + b3 → q3 ≡ 2 * q4 + b4 → q4 ≡ 2 * q5 + b5 → q5 ≡ 2 * q6 + b6
    → q6 * 128 + 64 * b6 + 32 * b5 + 16 * b4 + 8 * b3 + 4 * b2 + 2 * b1 + 1 * b0 ≡ i
digits_sum i q0 q1 q2 q3 q4 q5 q6 b0 b1 b2 b3 b4 b5 b6 e0 e1 e2 e3 e4 e5 e6 = omega arith

index-each : (i : ℕ) → index_of (mode_in i) (apart_caller_in i) (flags_in i) ≡ i
unfolding index_of flags_in
index-each i =
    let made : (n : ℕ) → worth n (eqb (bit n i) 1) ≡ n * bit n i = λ n. test-worth n (bit n i) (mod-lt (i / n) (omega arith)) in
    rw (made 64, made 32, made 16, made 8, made 4, made 2, made 1)
    (digits_sum i (i / 2) (i / 4) (i / 8) (i / 16) (i / 32) (i / 64) (i / 128) (bit 1 i) (bit 2 i) (bit 4 i) (bit 8 i) (bit 16 i) (bit 32 i) (bit 64 i)
    (omega arith) (omega arith) (omega arith) (omega arith) (omega arith) (omega arith) (omega arith))

pub indexes-chart : IndexesChart
indexes-chart = record { rule = index-rule; each = index-each }
