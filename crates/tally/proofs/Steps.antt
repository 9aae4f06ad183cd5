-- One answer more, by what the code computes.
use Prim.Native.Nat.{ℕ, ◌+◌, ◌*◌, ◌-◌, ◌≤◌, max}
use mathlib.Core.Path.{◌≡◌, ap}
use mathlib.Core.Bool.{Bool, true, false, ◌||◌, not}
use native.Mathlib.Omega.{arith}
use native.Mathlib.Nat.{one-mul, zero-mul, add-zero, max-zero}
use lib.Dec.{eqb, leb}
use borrow.Author.Tests.{leb-true}
use Rattle.std.specs.Prelude.{if◌then◌else◌}
use Rattle.model.specs.Session.{most_height}
use Rattle.tally.specs.declared.Tally.{Tally}
use Rattle.tally.specs.Tallies.{accepted_by, with_answer, takes, added}
use Rattle.tally.proofs.Checks.{Takes}

-- ---- what an answer brings

-- a call is accepted or refused
pub accepted-most : (refusal : ℕ) → accepted_by refusal ≤ 1
accepted-most refusal = go (eqb refusal 0)
  where
    go : (b : Bool) → (if b then 1 else 0) ≤ 1
    go true = omega arith
    go false = omega arith

-- no height above 32 is seen
pub seen_most : {t : Tally} {refusal height : ℕ} → Takes t refusal height → accepted_by refusal * height ≤ most_height
seen_most {t} {refusal} {height} h = go (eqb refusal 0) h.low
  where
    go : (b : Bool) → (not b || leb height most_height) ≡ true → (if b then 1 else 0) * height ≤ most_height
    go true e = let l = leb-true height most_height e in omega arith
    go false e = omega arith

-- ---- the tally with it

pub with-answer : (t : Tally) (refusal height : ℕ) {seen one : ℕ} → seen ≡ accepted_by refusal * height → one ≡ accepted_by refusal
    → ◌≡◌ {A = Tally} (record { sum = t.sum + seen; accepted = t.accepted + one; refused = t.refused + (1 - one); greatest = max t.greatest seen })
    (with_answer t refusal height)
with-answer t refusal height {seen} {one} e f = go (eqb refusal 0) e f
  where
    go : (b : Bool) → seen ≡ (if b then 1 else 0) * height → one ≡ (if b then 1 else 0)
        → ◌≡◌ {A = Tally} (record { sum = t.sum + seen; accepted = t.accepted + one; refused = t.refused + (1 - one); greatest = max t.greatest seen })
        (if b
        then record { sum = t.sum + height; accepted = t.accepted + 1; refused = t.refused; greatest = max t.greatest height }
        else record { sum = t.sum; accepted = t.accepted; refused = t.refused + 1; greatest = t.greatest })
    go true e f = rw (e, f, one-mul height) (ap (λ (n : ℕ). record { sum = t.sum + height; accepted = t.accepted + 1; refused = n; greatest = max t.greatest height }) (add-zero t.refused))
    go false e f = rw (e, f, zero-mul height, add-zero t.sum, add-zero t.accepted, max-zero t.greatest)

-- ---- the step

pub added-taken : (t : Tally) (refusal height : ℕ) → takes t refusal height ≡ true
    → record { tally = with_answer t refusal height; refusal = 0 } ≡ added t refusal height
unfolding added
added-taken t refusal height e = rw e

pub added-not : (t : Tally) (refusal height : ℕ) → takes t refusal height ≡ false → record { tally = t; refusal = 31 } ≡ added t refusal height
unfolding added
added-not t refusal height e = rw e
