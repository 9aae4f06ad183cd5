-- Each digit that is read, or ends the reading, by its law.
use Rattle.std.proofs.Common.{◌≡◌, ℕ, List, arith, drop, sym, ◌∙◌}
use Rattle.std.specs.Prelude.{Option}
use Rattle.load_files.specs.Numbers.{number_from, number_in}
use Rattle.load_files.proofs.Digits.{number-begins, number-none, number-ends}
use Rattle.load_files.proofs.Digits.{digit-below, digit-above, digit-most, digit-read}
use Rattle.load_files.proofs.number_in.Goals as goal

pub returns-then-is_empty : goal.returns-then-is_empty
returns-then-is_empty c = number-none c.args.text.now (grind arith)

pub loop-byte-init : goal.loop-byte-init
loop-byte-init c = (omega arith, number-begins c.args.text.now (λ z. grind arith))

-- what a law of the digit at the place gives for the whole text
so : (text : List ℕ) (v i : ℕ) {r : Option ℕ} → number_in text ≡ number_from v (drop i text) → number_from v (drop i text) ≡ r → r ≡ number_in text
so text v i e f = sym (e ∙ f)

pub returns-in_default : goal.returns-in_default
returns-in_default c =
    so _ _ _ c.loop-byte.invariant.1 (digit-below c.args.text.now c.loop-byte.value c.loop-byte.byte-index (omega arith) (omega arith))

pub returns-in_default-2 : goal.returns-in_default-2
returns-in_default-2 c =
    so _ _ _ c.loop-byte.invariant.1 (digit-above c.args.text.now c.loop-byte.value c.loop-byte.byte-index (omega arith) (omega arith) (omega arith))

pub returns-then-value-gt-MOST : goal.returns-then-value-gt-MOST
returns-then-value-gt-MOST c =
    so _ _ _ c.loop-byte.invariant.1 (digit-most c.args.text.now c.loop-byte.value c.loop-byte.byte-index (omega arith) (omega arith) (omega arith) (omega arith))

pub loop-byte-preserved : goal.loop-byte-preserved
loop-byte-preserved c =
    let r = digit-read c.args.text.now c.loop-byte.value c.loop-byte.byte-index (omega arith) (omega arith) (omega arith) (omega arith) in
    let e = c.from.ensures in
    (omega arith, rw e (sym (so _ _ _ c.loop-byte.invariant.1 r)))

pub returns : goal.returns
returns c = so _ _ _ c.loop-byte.invariant.1 (number-ends c.args.text.now c.loop-byte.value c.loop-byte.byte-index (omega arith))
