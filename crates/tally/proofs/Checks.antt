-- What the tally's check says, and what it leaves room for.
use Prim.Native.Nat.{ℕ, ◌+◌, ◌*◌, ◌≤◌, ◌<◌}
use mathlib.Core.Path.{◌≡◌, refl}
use mathlib.Core.Bool.{Bool, true, false, ◌&&◌, ◌||◌, not}
use native.Mathlib.Omega.{arith}
use native.Mathlib.Nat.{mul-le-mul_left}
use lib.Dec.{eqb, leb}
use borrow.Author.Tests.{eqb-true}
use Rattle.std.specs.Prelude.{if◌then◌else◌}
use Rattle.model.specs.Session.{most_height}
use Rattle.model.proofs.Logic.{Decides, and-decides, eqb-decides, leb-decides, ltb-decides, self-decides, same_test}
use Rattle.tally.specs.declared.Tally.{Tally}
use Rattle.tally.specs.Tallied.{most_calls}
use Rattle.tally.specs.Tallies.{is_tally, takes}

-- what the check says: where nothing was accepted the last two leave 0 alone
pub record IsTally (t : Tally) : Type 0 where
  pub calls : t.accepted + t.refused ≤ most_calls
  pub height : t.greatest ≤ most_height
  pub one : t.greatest ≤ t.sum
  pub most : t.sum ≤ t.accepted * t.greatest

-- as the code asks it
abbrev pub test : Tally → Bool
test t =
    ((leb (t.accepted + t.refused) most_calls && leb t.greatest most_height) && leb t.greatest t.sum)
    && leb t.sum (t.accepted * t.greatest)

test-decides : (t : Tally) → Decides (test t) (IsTally t)
test-decides t =
    let d = and-decides
    (and-decides (and-decides (leb-decides (t.accepted + t.refused) most_calls) (leb-decides t.greatest most_height)) (leb-decides t.greatest t.sum))
    (leb-decides t.sum (t.accepted * t.greatest)) in
    record {
      holds = λ e. let h = d.holds e in record { calls = h.0.0.0; height = h.0.0.1; one = h.0.1; most = h.1 };
      shows = λ h. d.shows (((h.calls, h.height), h.one), h.most);
    }

none-decides : (t : Tally) → t.accepted ≡ 0
    → Decides (leb (t.accepted + t.refused) most_calls && (eqb t.greatest 0 && eqb t.sum 0)) (IsTally t)
none-decides t z =
    let d = and-decides (leb-decides (t.accepted + t.refused) most_calls) (and-decides (eqb-decides t.greatest 0) (eqb-decides t.sum 0)) in
    record {
      holds = λ e. let h = d.holds e in
          record { calls = h.0; height = omega (arith, h.1.0); one = omega (arith, h.1.0); most = omega (arith, h.1.1) };
      shows = λ h. let m : t.sum ≤ 0 * t.greatest = rw z at h.most in d.shows (h.calls, (omega (arith, h.one, m), omega (arith, m)));
    }

some-decides : (t : Tally)
    → Decides (leb (t.accepted + t.refused) most_calls
    && (leb t.greatest most_height && (leb t.greatest t.sum && leb t.sum (t.accepted * t.greatest)))) (IsTally t)
some-decides t =
    let d = and-decides (leb-decides (t.accepted + t.refused) most_calls)
    (and-decides (leb-decides t.greatest most_height) (and-decides (leb-decides t.greatest t.sum) (leb-decides t.sum (t.accepted * t.greatest)))) in
    record {
      holds = λ e. let h = d.holds e in record { calls = h.0; height = h.1.0; one = h.1.1.0; most = h.1.1.1 };
      shows = λ h. d.shows (h.calls, (h.height, (h.one, h.most)));
    }

pub tally-decides : (t : Tally) → Decides (is_tally t) (IsTally t)
unfolding is_tally
tally-decides t = go (eqb t.accepted 0) refl
  where
    go : (b : Bool) → eqb t.accepted 0 ≡ b
        → Decides (leb (t.accepted + t.refused) most_calls
        && (if b then eqb t.greatest 0 && eqb t.sum 0
        else leb t.greatest most_height && (leb t.greatest t.sum && leb t.sum (t.accepted * t.greatest)))) (IsTally t)
    go true e = none-decides t (eqb-true t.accepted 0 e)
    go false e = some-decides t

pub test-same : (t : Tally) → test t ≡ is_tally t
test-same t = same_test (test-decides t) (tally-decides t)

-- ---- room

-- no height is above 32, so the sum is small
pub tally-sum : (t : Tally) → IsTally t → t.sum ≤ t.accepted * 32
tally-sum t h = let m = mul-le-mul_left t.accepted h.height in omega (arith, h.most)

-- what is known where an answer is taken
pub record Takes (t : Tally) (refusal height : ℕ) : Type 0 where
  pub tally : IsTally t
  pub low : (not (eqb refusal 0) || leb height most_height) ≡ true
  pub room : t.accepted + t.refused < most_calls

pub takes-decides : (t : Tally) (refusal height : ℕ) → Decides (takes t refusal height) (Takes t refusal height)
unfolding takes
takes-decides t refusal height =
    let d = and-decides
    (and-decides (tally-decides t) (self-decides (not (eqb refusal 0) || leb height most_height)))
    (ltb-decides (t.accepted + t.refused) most_calls) in
    record {
      holds = λ e. let h = d.holds e in record { tally = h.0.0; low = h.0.1; room = h.1 };
      shows = λ h. d.shows ((h.tally, h.low), h.room);
    }
