-- The tally of a list: it passes the check, and with one answer more it is what the step gives.
use Prim.Native.Nat.{◌+◌, ◌≤◌, ◌<◌, min}
use mathlib.Core.Path.{◌≡◌, refl, sym, ◌∙◌, ap}
use mathlib.Core.Bool.{Bool, true, false}
use mathlib.Core.List.{List, [], ◌∷◌, ◌++◌, append-nil, append_assoc}
use native.Mathlib.Omega.{arith}
use lib.Dec.{ltb}
use lib.ListN.{length, take, length-append, length-take}
use lib.Seq.{take_all, take-append-le}
use borrow.Author.Tests.{ltb-true, ltb-false}
use Rattle.model.specs.declared.Answer.{Answer}
use Rattle.model.specs.Lists.{All}
use Rattle.model.proofs.Logic.{refuted, contradiction}
use Rattle.model.proofs.ListLaws.{All-take}
use Rattle.tally.specs.declared.Tally.{Tally}
use Rattle.tally.specs.Tallied.{those, is_accepted, can_be_tallied, most_calls, tallied, front_height, report_of}
use Rattle.tally.specs.Tallies.{Added, count_of, tally_of, is_tally, added, added_all, reported, TalliesJoin, ReportsLists}
use Rattle.tally.proofs.Checks.{IsTally, tally-decides, Takes, takes-decides}
use Rattle.tally.proofs.Steps.{added-taken, added-not}
use Rattle.tally.proofs.ListLaws.{one_if, those-append, those-pass, those-split, greatest-within, greatest-sum, sum-greatest, heights-within, count-snoc}

-- ---- the answers tallied

pub tallied-pass : (answers : List Answer) → All (λ a. can_be_tallied a ≡ true) (tallied answers)
unfolding tallied
tallied-pass answers = All-take (λ a. can_be_tallied a ≡ true) most_calls (those can_be_tallied answers) (those-pass can_be_tallied answers)

pub tallied-length : (answers : List Answer) → length (tallied answers) ≡ min most_calls (length (those can_be_tallied answers))
unfolding tallied
tallied-length answers = length-take most_calls (those can_be_tallied answers)

tallied-with : (answers : List Answer) (a : Answer)
    → tallied (answers ++ a ∷ []) ≡ take most_calls (those can_be_tallied answers ++ one_if can_be_tallied (can_be_tallied a) a)
unfolding tallied
tallied-with answers a = ap (take most_calls) (those-append can_be_tallied answers (a ∷ []))

module _ (answers : List Answer) (a : Answer) where
  -- one that can be tallied, where there is room
  pub tallied-more : can_be_tallied a ≡ true → length (tallied answers) < most_calls → tallied (answers ++ a ∷ []) ≡ tallied answers ++ a ∷ []
  unfolding tallied
  tallied-more e l =
      let xs = those can_be_tallied answers in
      let n = tallied-length answers in
      let few : length xs < most_calls = omega arith in
      let m = length-append xs (a ∷ []) in
      tallied-with answers a ∙ rw (e, take_all most_calls (xs ++ a ∷ []) (omega arith), take_all most_calls xs (omega arith))

  -- where there is none
  pub tallied-full : most_calls ≤ length (tallied answers) → tallied (answers ++ a ∷ []) ≡ tallied answers
  unfolding tallied
  tallied-full l =
      let n = tallied-length answers in
      tallied-with answers a ∙ take-append-le most_calls (those can_be_tallied answers) (one_if can_be_tallied (can_be_tallied a) a) (omega arith)

  -- one that cannot
  pub tallied-not : can_be_tallied a ≡ false → tallied (answers ++ a ∷ []) ≡ tallied answers
  unfolding tallied
  tallied-not e = tallied-with answers a ∙ rw (e, append-nil (those can_be_tallied answers))

-- ---- the tally

-- its calls are those tallied
pub tally-calls : (answers : List Answer) → (tally_of answers).accepted + (tally_of answers).refused ≡ length (tallied answers)
unfolding tally_of
tally-calls answers = those-split is_accepted (tallied answers)

pub tally-is : (answers : List Answer) → IsTally (tally_of answers)
unfolding tally_of
tally-is answers =
    let xs = those is_accepted (tallied answers) in
    record {
      calls = omega (arith, those-split is_accepted (tallied answers), tallied-length answers);
      height = greatest-within front_height _ xs (heights-within (tallied answers) (tallied-pass answers));
      one = greatest-sum front_height xs;
      most = sum-greatest front_height xs;
    }

-- the check accepts it
pub tally-passes : (answers : List Answer) → is_tally (tally_of answers) ≡ true
tally-passes answers = (tally-decides (tally_of answers)).shows (tally-is answers)

-- ---- one answer more

module _ (answers : List Answer) (a : Answer) where
  abbrev step : Added
  step = added (tally_of answers) a.refusal a.height

  added_more : can_be_tallied a ≡ true → length (tallied answers) < most_calls → step.tally ≡ tally_of (answers ++ a ∷ [])
  unfolding tally_of
  added_more e l =
      let h : Takes (tally_of answers) a.refusal a.height = record { tally = tally-is answers; low = e; room = omega (arith, tally-calls answers) } in
      let k = (takes-decides (tally_of answers) a.refusal a.height).shows h in
      sym (ap (λ (x : Added). x.tally) (added-taken (tally_of answers) a.refusal a.height k))
      ∙ sym (ap count_of (tallied-more answers a e l) ∙ count-snoc (tallied answers) a)

  added_none : (Takes (tally_of answers) a.refusal a.height → ⊥) → tallied (answers ++ a ∷ []) ≡ tallied answers
      → step.tally ≡ tally_of (answers ++ a ∷ [])
  unfolding tally_of
  added_none f e =
      let d = takes-decides (tally_of answers) a.refusal a.height in
      sym (ap (λ (x : Added). x.tally) (added-not (tally_of answers) a.refusal a.height (refuted _ d f))) ∙ sym (ap count_of e)

  -- what the step gives of a list's tally is the tally of the list with the answer behind it
  pub added-tally : step.tally ≡ tally_of (answers ++ a ∷ [])
  added-tally = go (can_be_tallied a) (ltb (length (tallied answers)) most_calls) refl refl
    where
      go : (b r : Bool) → can_be_tallied a ≡ b → ltb (length (tallied answers)) most_calls ≡ r → step.tally ≡ tally_of (answers ++ a ∷ [])
      go true true e f = added_more e (ltb-true (length (tallied answers)) most_calls f)
      go true false e f =
          let l = ltb-false (length (tallied answers)) most_calls f in
          added_none (λ h. let n = h.room in omega (arith, tally-calls answers)) (tallied-full answers a l)
      go false r e f = added_none (λ h. contradiction h.low e) (tallied-not answers a e)

-- the same of what a caller holds
pub add-tallies : (answers : List Answer) (a : Answer) {t : Tally} {r : Added} → t ≡ tally_of answers → r ≡ added t a.refusal a.height
    → r.tally ≡ tally_of (answers ++ a ∷ [])
add-tallies answers a {t} {r} e f =
    ap (λ (x : Added). x.tally) f ∙ ap (λ (u : Tally). (added u a.refusal a.height).tally) e ∙ added-tally answers a

-- ---- lists

-- from any tally: a list and then another, and a list with one answer more
pub added-all-append : (t : Tally) (first second : List Answer) → added_all t (first ++ second) ≡ added_all (added_all t first) second
unfolding added_all
added-all-append t [] second = refl
added-all-append t (a ∷ first) second = added-all-append (added t a.refusal a.height).tally first second

pub added-all-snoc : (t : Tally) (answers : List Answer) (a : Answer)
    → added_all t (answers ++ a ∷ []) ≡ (added (added_all t answers) a.refusal a.height).tally
unfolding added_all
added-all-snoc t answers a = added-all-append t answers (a ∷ [])

pub tallies-join : TalliesJoin
unfolding added_all
tallies-join first [] = ap tally_of (sym (append-nil first))
tallies-join first (a ∷ second) =
    ap (λ (t : Tally). added_all t second) (added-tally first a) ∙ tallies-join (first ++ a ∷ []) second ∙ ap tally_of (append_assoc first (a ∷ []) second)

pub reports-lists : ReportsLists
unfolding reported report_of tally_of
reports-lists answers = rw (tally-passes answers)
