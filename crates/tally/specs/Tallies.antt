-- The tally of a list of answers, what an answer makes of a tally, and what a tally reports.
use Rattle.std.specs.Prelude.{ℕ, ◌+◌, ◌*◌, max, ◌≡◌, ◌↔◌, Bool, true, not, ◌&&◌, ◌||◌, List, [], ◌∷◌, ◌++◌, eqb, leb, ltb, if◌then◌else◌, Result, Ok, Err}
use Rattle.model.specs.declared.Answer.{Answer}
use Rattle.model.specs.declared.Refusal.{Refusal}
use Rattle.model.specs.Refusals.{refusal_number}
use Rattle.model.specs.Session.{most_height}
use Rattle.tally.specs.declared.Tally.{Tally}
use Rattle.tally.specs.declared.Report.{Report}
use Rattle.tally.specs.Tallied.{most_calls, tallied, accepted_in, refused_in, greatest_in, sum_in, mean_tenths, report_of}

-- ---- the tally of a list

-- the numbers of a list
abbrev pub count_of : List Answer → Tally
count_of answers =
    record { sum = sum_in answers; accepted = accepted_in answers; refused = refused_in answers; greatest = greatest_in answers }

-- those of the answers tallied
unfoldable pub tally_of : List Answer → Tally
tally_of answers = count_of (tallied answers)

-- "a tally that no list of answers gives" is any other: at most 65,535 calls; where none was accepted no height, and else a
-- greatest height of at most 32, which one of the accepted calls has and none of them passes
unfoldable pub is_tally : Tally → Bool
is_tally t =
    leb (t.accepted + t.refused) most_calls
    && (if eqb t.accepted 0 then eqb t.greatest 0 && eqb t.sum 0
    else leb t.greatest most_height && (leb t.greatest t.sum && leb t.sum (t.accepted * t.greatest)))

-- ---- one answer more

-- how many accepted calls an answer with this refusal is
abbrev pub accepted_by : ℕ → ℕ
accepted_by refusal = if eqb refusal 0 then 1 else 0

-- a tally with an answer more: its height is looked at where it is accepted
abbrev pub with_answer : Tally → ℕ → ℕ → Tally
with_answer t refusal height =
    if eqb refusal 0
    then record { sum = t.sum + height; accepted = t.accepted + 1; refused = t.refused; greatest = max t.greatest height }
    else record { sum = t.sum; accepted = t.accepted; refused = t.refused + 1; greatest = t.greatest }

-- an answer is taken: none of "31 at the 65,536th call, for an accepted height above 32 or for a tally that no list of
-- answers gives" (02, request 6)
unfoldable pub takes : Tally → ℕ → ℕ → Bool
takes t refusal height =
    (is_tally t && (not (eqb refusal 0) || leb height most_height)) && ltb (t.accepted + t.refused) most_calls

-- the tally after an answer, and the refusal
pub record Added : Type 0 where
  pub tally : Tally
  pub refusal : ℕ

-- the tally after an answer and 0, or 31 "and keeps its numbers"
unfoldable pub added : Tally → ℕ → ℕ → Added
added t refusal height =
    if takes t refusal height then record { tally = with_answer t refusal height; refusal = 0 } else record { tally = t; refusal = 31 }

-- what an answer makes of a tally, or its refusal: then the tally is as it was
abbrev pub added_as : Tally → Result Tally Refusal → Added
added_as t (Ok next) = record { tally = next; refusal = 0 }
added_as t (Err r) = record { tally = t; refusal = refusal_number r }

-- the tally after a list of answers, added one by one
unfoldable pub added_all : Tally → List Answer → Tally
added_all t [] = t
added_all t (a ∷ answers) = added_all (added t a.refusal a.height).tally answers

-- ---- the report

-- the four numbers of a tally, or 31 and four zeros
unfoldable pub reported : Tally → Report
reported t =
    if is_tally t
    then record { accepted = t.accepted; refused = t.refused; tenths = mean_tenths t.sum t.accepted; refusal = 0; greatest = t.greatest }
    else record { accepted = 0; refused = 0; tenths = 0; refusal = 31; greatest = 0 }

-- ---- what is promised

-- the check accepts a tally exactly where a list of answers gives it
abbrev pub KnowsTallies : Type 0
KnowsTallies = (t : Tally) → (is_tally t ≡ true) ↔ ((answers : List Answer) × (t ≡ tally_of answers))

-- tallying a list and then another is tallying the two, one behind the other
abbrev pub TalliesJoin : Type 0
TalliesJoin = (first second : List Answer) → added_all (tally_of first) second ≡ tally_of (first ++ second)

-- the report of a list's tally is the list's report
abbrev pub ReportsLists : Type 0
ReportsLists = (answers : List Answer) → reported (tally_of answers) ≡ report_of answers
