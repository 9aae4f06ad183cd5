-- Document 02, requests 6 and 11: the numbers of the depth report, over a list of answers.
use Rattle.std.specs.Prelude.{ℕ, zero, suc, ◌+◌, ◌-◌, ◌*◌, ◌/◌, ◌%◌, ◌≤◌, max, ◌≡◌, Bool, not, ◌||◌, List, [], ◌∷◌, eqb, leb, ltb, length, take, if◌then◌else◌}
use Rattle.model.specs.declared.Answer.{Answer}
use Rattle.model.specs.Lists.{sum_of}
use Rattle.model.specs.Session.{most_height}
use Rattle.tally.specs.declared.Report.{Report}

-- ---- lists

module _ {A : Type 0} where
  -- those of which the test holds, in their order
  abbrev pub those : (A → Bool) → List A → List A
  those test [] = []
  those test (x ∷ xs) = if test x then x ∷ those test xs else those test xs

  -- the greatest weight of an element; 0 where there is none
  abbrev pub greatest_of : (A → ℕ) → List A → ℕ
  greatest_of weight [] = 0
  greatest_of weight (x ∷ xs) = max (weight x) (greatest_of weight xs)

-- ---- the answers tallied

-- "refusal (0 if none)"
abbrev pub is_accepted : Answer → Bool
is_accepted a = eqb a.refusal 0

abbrev pub is_refused : Answer → Bool
is_refused a = not (is_accepted a)

-- "the library's tally gives 31 .. for an accepted height above 32": any other answer can be tallied
abbrev pub can_be_tallied : Answer → Bool
can_be_tallied a = is_refused a || leb a.height most_height

-- "31 at the 65,536th call"
abbrev pub most_calls : ℕ
most_calls = 65535

-- "the list of answers tallied": an answer that gets 31 is not among them, "and keeps its numbers"
unfoldable pub tallied : List Answer → List Answer
tallied answers = take most_calls (those can_be_tallied answers)

-- ---- the numbers

-- "front height": the fourth number of an answer
abbrev pub front_height : Answer → ℕ
front_height a = a.height

-- "accepted calls, refused calls"
abbrev pub accepted_in : List Answer → ℕ
accepted_in answers = length (those is_accepted answers)

abbrev pub refused_in : List Answer → ℕ
refused_in answers = length (those is_refused answers)

-- "greatest front height": after accepted calls, "0 if nothing was accepted"
abbrev pub greatest_in : List Answer → ℕ
greatest_in answers = greatest_of front_height (those is_accepted answers)

-- the sum of the front heights after accepted calls
abbrev pub sum_in : List Answer → ℕ
sum_in answers = sum_of front_height (those is_accepted answers)

-- x / n "rounded to the nearest", and "halves to the even neighbour" (02, request 11): what is left behind the whole quotient is
-- less than half of n, more than it, or just that
abbrev pub half_to_even : ℕ → ℕ → ℕ
half_to_even x n =
    if ltb (2 * (x % n)) n then x / n
    else if ltb n (2 * (x % n)) then x / n + 1
    else if eqb (x / n % 2) 0 then x / n
    else x / n + 1

-- the mean of n heights with this sum, "in tenths". "Mean and greatest are 0 if nothing was accepted."
unfoldable pub mean_tenths : ℕ → ℕ → ℕ
mean_tenths sum zero = 0
mean_tenths sum (suc n) = half_to_even (10 * sum) (suc n)

-- how far two numbers are from each other
abbrev pub distance : ℕ → ℕ → ℕ
distance x y = (x - y) + (y - x)

-- p tenths for the exact mean 10 * sum / n, which "lies within half a tenth of what is printed", and where it is half a tenth away p
-- is even. Both are taken 2 * n times.
pub record IsRounded (sum n p : ℕ) : Type 0 where
  pub near : distance (20 * sum) (2 * (p * n)) ≤ n
  pub even : distance (20 * sum) (2 * (p * n)) ≡ n → p % 2 ≡ 0

-- "If any tallied call was accepted": the mean is so rounded, and there is only one number that is
pub record RoundsHalfToEven : Type 0 where
  pub rounded : (sum n : ℕ) → 1 ≤ n → IsRounded sum n (mean_tenths sum n)
  pub only : (sum n p : ℕ) → 1 ≤ n → IsRounded sum n p → p ≡ mean_tenths sum n

-- "Each number equals a definition over the list of answers tallied."
unfoldable pub report_of : List Answer → Report
report_of answers =
    record {
      accepted = accepted_in (tallied answers);
      refused = refused_in (tallied answers);
      tenths = mean_tenths (sum_in (tallied answers)) (accepted_in (tallied answers));
      refusal = 0;
      greatest = greatest_in (tallied answers);
    }
