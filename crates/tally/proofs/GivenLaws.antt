-- Each tally that passes the check is given by a list of answers: one of the greatest height, then as high as the rest of the sum
-- allows, then the refused ones.
use Prim.Native.Nat.{ℕ, zero, suc, ◌+◌, ◌*◌, ◌-◌, ◌≤◌, min}
use mathlib.Core.Path.{◌≡◌, refl, sym, ap}
use mathlib.Core.Bool.{true}
use mathlib.Core.List.{List, ◌∷◌}
use native.Mathlib.Omega.{arith}
use lib.ListN.{length, replicate}
use lib.Seq.{take_all}
use borrow.Author.Tests.{le-leb}
use Rattle.model.specs.declared.Answer.{Answer}
use Rattle.model.specs.Lists.{All}
use Rattle.model.specs.Session.{most_height}
use Rattle.model.specs.Answers.{refused}
use Rattle.tally.specs.declared.Tally.{Tally}
use Rattle.tally.specs.Tallied.{can_be_tallied, is_accepted, most_calls, tallied, accepted_in, refused_in, greatest_in, sum_in}
use Rattle.tally.specs.Tallies.{tally_of, KnowsTallies}
use Rattle.tally.proofs.Checks.{IsTally, tally-decides}
use Rattle.tally.proofs.ListLaws.{those-all, those-split}
use Rattle.tally.proofs.TallyLaws.{tally-passes}

-- ---- the list

-- an accepted answer of this height
abbrev accepted_at : ℕ → Answer
accepted_at h =
    record { refusal = 0; screen = 0; root = 0; height = h; tasks = 0; main = 0; closed = 0; edition = 0; no_history = 0 }

-- n accepted answers with this sum, none above g, and then k refused ones
filled : ℕ → ℕ → ℕ → ℕ → List Answer
filled zero sum g k = replicate k (refused 1)
filled (suc n) sum g k = accepted_at (min sum g) ∷ filled n (sum - min sum g) g k

-- what is known of a list
record Filled (n s g k : ℕ) (answers : List Answer) : Type 0 where
  accepted : accepted_in answers ≡ n
  refused : refused_in answers ≡ k
  sum : sum_in answers ≡ s
  greatest : greatest_in answers ≤ g
  pass : All (λ a. can_be_tallied a ≡ true) answers

refused-filled : (g k : ℕ) → Filled 0 0 g k (replicate k (refused 1))
refused-filled g zero = record { accepted = refl; refused = refl; sum = refl; greatest = omega arith; pass = tt }
refused-filled g (suc k) =
    let h = refused-filled g k in
    record { accepted = h.accepted; refused = ap suc h.refused; sum = h.sum; greatest = h.greatest; pass = (refl, h.pass) }

accepted-filled : {n sum g k : ℕ} {answers : List Answer} → g ≤ most_height → (h : ℕ) → h ≤ g → Filled n sum g k answers
    → Filled (suc n) (h + sum) g k (accepted_at h ∷ answers)
accepted-filled small h l f =
    let m = f.greatest in
    record {
      accepted = ap suc f.accepted;
      refused = f.refused;
      sum = ap (λ (s : ℕ). h + s) f.sum;
      greatest = omega arith;
      pass = (le-leb h most_height (omega arith), f.pass);
    }

is-filled : (n sum g k : ℕ) → g ≤ most_height → sum ≤ n * g → Filled n sum g k (filled n sum g k)
unfolding filled
is-filled zero sum g k small l = let z : sum ≡ 0 = omega arith in rw z (refused-filled g k)
is-filled (suc n) sum g k small l =
    let f = is-filled n (sum - min sum g) g k small (omega arith) in
    let e : min sum g + (sum - min sum g) ≡ sum = omega arith in
    rw e at (accepted-filled small (min sum g) (omega arith) f)

-- ---- its tally

-- where each can be tallied, and there are not too many, all are
tallied-all : (answers : List Answer) → All (λ a. can_be_tallied a ≡ true) answers → length answers ≤ most_calls → tallied answers ≡ answers
unfolding tallied
tallied-all answers h l = rw (those-all can_be_tallied answers h) (take_all most_calls answers l)

gives : (t : Tally) (g : ℕ) (answers : List Answer) → Filled t.accepted t.sum g t.refused answers → greatest_in answers ≡ t.greatest
    → t.accepted + t.refused ≤ most_calls → t ≡ tally_of answers
unfolding tally_of
gives t g answers f e l =
    let a = f.accepted in
    let r = f.refused in
    let n = those-split is_accepted answers in
    rw (tallied-all answers f.pass (omega arith))
    (λ i. record { sum = sym f.sum i; accepted = sym a i; refused = sym r i; greatest = sym e i })

given : (t : Tally) → IsTally t → (answers : List Answer) × (t ≡ tally_of answers)
given t h = go t.accepted refl
  where
    go : (n : ℕ) → t.accepted ≡ n → (answers : List Answer) × (t ≡ tally_of answers)
    go zero e =
        let m = rw e at h.most in
        let o = h.one in
        let answers = replicate t.refused (refused 1) in
        let f = refused-filled 0 t.refused in
        let s : 0 ≡ t.sum = omega arith in
        let g = f.greatest in
        (answers, gives t 0 answers (rw (e, ← s) f) (omega arith) h.calls)
    go (suc n) e =
        let m = rw e at h.most in
        let o = h.one in
        let f = is-filled n (t.sum - t.greatest) t.greatest t.refused h.height (omega arith) in
        let k = accepted-filled h.height t.greatest (omega arith) f in
        let s : t.greatest + (t.sum - t.greatest) ≡ t.sum = omega arith in
        let g = f.greatest in
        let answers = accepted_at t.greatest ∷ filled n (t.sum - t.greatest) t.greatest t.refused in
        (answers, gives t t.greatest answers (rw e (rw s at k)) (omega arith) h.calls)

pub knows-tallies : KnowsTallies
knows-tallies t = (λ e. given t ((tally-decides t).holds e), λ x. rw x.1 (tally-passes x.0))
