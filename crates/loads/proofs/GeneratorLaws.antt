-- Laws of the generator: a run in two parts, one record more, how many bytes, and that no state is 0.
use Prim.Native.Nat.{ℕ, zero, suc, ◌+◌, ◌*◌, ◌/◌, ◌%◌, ◌<◌}
use mathlib.Core.Path.{◌≡◌, refl, sym, ◌∙◌, ap}
use mathlib.Core.List.{List, ◌++◌, append-nil, append_assoc}
use native.Mathlib.Nat.{zero-add, suc-add}
use native.Mathlib.Omega.{arith}
use lib.Dec.{eqb}
use lib.Bits.{bit_xor, xor_lt, xor_add_and, and_le_l}
use lib.ListN.{length, length-append}
use borrow.Author.Tests.{eqb-false}
use Rattle.model.proofs.Logic.{if-elim}
use Rattle.loads.specs.Generator.{step, next, record_from, records_from, state_after}

-- ---- in two parts

pub records-append : (n s a b : ℕ) → records_from n s (a + b) ≡ records_from n s a ++ records_from n (state_after s a) b
unfolding records_from state_after
records-append n s zero b = ap (records_from n s) (zero-add b)
records-append n s (suc a) b =
    ap (records_from n s) (suc-add a b) ∙ ap (λ (l : List ℕ). record_from n s ++ l) (records-append n (next s) a b)
    ∙ sym (append_assoc (record_from n s) (records_from n (next s) a) (records_from n (state_after (next s) a) b))

pub state-append : (s a b : ℕ) → state_after s (a + b) ≡ state_after (state_after s a) b
unfolding state_after
state-append s zero b = ap (state_after s) (zero-add b)
state-append s (suc a) b = ap (state_after s) (suc-add a b) ∙ state-append (next s) a b

-- one record more
pub records-more : (n s a : ℕ) → records_from n s (a + 1) ≡ records_from n s a ++ record_from n (state_after s a)
unfolding records_from
records-more n s a =
    records-append n s a 1 ∙ ap (λ (l : List ℕ). records_from n s a ++ l) (append-nil (record_from n (state_after s a)))

pub state-more : (s a : ℕ) → state_after s (a + 1) ≡ next (state_after s a)
unfolding state_after
state-more s a = state-append s a 1

-- ---- how many bytes

pub record-length : (n s : ℕ) → length (record_from n s) ≡ 6
unfolding record_from
record-length n s = refl

pub records-length : (n s a : ℕ) → length (records_from n s a) ≡ 6 * a
unfolding records_from
records-length n s zero = refl
records-length n s (suc a) =
    omega (arith, records-length n (next s) a, length-append (record_from n s) (records_from n (next s) a), record-length n s)

-- ---- the states of a seed of 32 bits that is not 0

abbrev pub State32 : ℕ → Type 0
State32 s = (0 < s) × (s < 0x100000000)

-- two numbers, the first of which is the smaller, are unlike
xor-positive : (a b : ℕ) → a < b → 0 < bit_xor a b
xor-positive a b h = omega (arith, xor_add_and a b, and_le_l a b)

step-state : (s : ℕ) → State32 s → State32 (step s)
unfolding step
step-state s (p, h) =
    if-elim State32 (eqb (s % 2) 1) (bit_xor (s / 2) 0x80200003) (s / 2)
    (λ e. (xor-positive (s / 2) 0x80200003 (omega arith), xor_lt 32 (s / 2) 0x80200003 (omega arith) (omega arith)))
    (λ e. let f = eqb-false (s % 2) 1 e in (omega arith, omega arith))

-- "If s is not 0, state(s, a) is not 0"
pub after-state : (s a : ℕ) → State32 s → State32 (state_after s a)
unfolding state_after next
after-state s zero h = h
after-state s (suc a) h = after-state (next s) a (step-state (step (step s)) (step-state (step s) (step-state s h)))
