-- Those of a list that pass a test, the greatest weight, and the numbers of a list with one answer more.
use Prim.Native.Nat.{ℕ, suc, ◌+◌, ◌*◌, ◌≤◌, max}
use mathlib.Core.Path.{◌≡◌, refl, ap}
use mathlib.Core.Bool.{Bool, true, false, not, ◌||◌}
use mathlib.Core.List.{List, [], ◌∷◌, ◌++◌, append-nil}
use native.Mathlib.Omega.{arith}
use lib.Dec.{eqb, leb}
use lib.ListN.{length, length-append}
use borrow.Author.Tests.{leb-true}
use Rattle.model.specs.declared.Answer.{Answer}
use Rattle.std.specs.Prelude.{if◌then◌else◌}
use Rattle.model.specs.Lists.{sum_of, All}
use Rattle.model.specs.Session.{most_height}
use Rattle.model.proofs.SumLaws.{sum-most}
use Rattle.tally.specs.declared.Tally.{Tally}
use Rattle.tally.specs.Tallied.{those, greatest_of, is_accepted, is_refused, can_be_tallied, front_height}
use Rattle.tally.specs.Tallies.{count_of, with_answer}

-- ---- those that pass a test

module _ {A : Type 0} (test : A → Bool) where
  -- one element, by its test
  abbrev pub one_if : Bool → A → List A
  one_if b x = if b then x ∷ [] else []

  pub those-append : (xs ys : List A) → those test (xs ++ ys) ≡ those test xs ++ those test ys
  those-append [] ys = refl
  those-append (x ∷ xs) ys = go (test x) (those-append xs ys)
    where
      go : (b : Bool) → those test (xs ++ ys) ≡ those test xs ++ those test ys
          → (if b then x ∷ those test (xs ++ ys) else those test (xs ++ ys)) ≡ (if b then x ∷ those test xs else those test xs) ++ those test ys
      go true e = ap (λ (l : List A). x ∷ l) e
      go false e = e

  -- each of them passes it
  pub those-pass : (xs : List A) → All (λ x. test x ≡ true) (those test xs)
  those-pass [] = tt
  those-pass (x ∷ xs) = go (test x) refl (those-pass xs)
    where
      go : (b : Bool) → test x ≡ b → All (λ x. test x ≡ true) (those test xs) → All (λ x. test x ≡ true) (if b then x ∷ those test xs else those test xs)
      go true e h = (e, h)
      go false e h = h

  -- where each passes, these are all
  pub those-all : (xs : List A) → All (λ x. test x ≡ true) xs → those test xs ≡ xs
  those-all [] h = refl
  those-all (x ∷ xs) h = rw h.0 (ap (λ (l : List A). x ∷ l) (those-all xs h.1))

  -- a list is those that pass and those that do not
  pub those-split : (xs : List A) → length (those test xs) + length (those (λ x. not (test x)) xs) ≡ length xs
  those-split [] = refl
  those-split (x ∷ xs) = let e = those-split xs in go (test x) e
    where
      go : (b : Bool) → length (those test xs) + length (those (λ x. not (test x)) xs) ≡ length xs
          → length (if b then x ∷ those test xs else those test xs)
          + length (if not b then x ∷ those (λ x. not (test x)) xs else those (λ x. not (test x)) xs) ≡ suc (length xs)
      go true e = omega arith
      go false e = omega arith

-- ---- the greatest, and the sum

module _ {A : Type 0} (weight : A → ℕ) where
  pub greatest-snoc : (xs : List A) (x : A) → greatest_of weight (xs ++ x ∷ []) ≡ max (greatest_of weight xs) (weight x)
  greatest-snoc [] x = omega arith
  greatest-snoc (y ∷ xs) x = let e = greatest-snoc xs x in omega arith

  pub sum-snoc : (xs : List A) (x : A) → sum_of weight (xs ++ x ∷ []) ≡ sum_of weight xs + weight x
  sum-snoc [] x = omega arith
  sum-snoc (y ∷ xs) x = let e = sum-snoc xs x in omega arith

  pub greatest-within : (m : ℕ) (xs : List A) → All (λ x. weight x ≤ m) xs → greatest_of weight xs ≤ m
  greatest-within m [] h = omega arith
  greatest-within m (x ∷ xs) h = let l = h.0 in let e = greatest-within m xs h.1 in omega arith

  pub within-greatest : (m : ℕ) (xs : List A) → greatest_of weight xs ≤ m → All (λ x. weight x ≤ m) xs
  within-greatest m [] l = tt
  within-greatest m (x ∷ xs) l = (omega arith, within-greatest m xs (omega arith))

  -- the sum has the greatest in it, and no more than the greatest for each
  pub greatest-sum : (xs : List A) → greatest_of weight xs ≤ sum_of weight xs
  greatest-sum [] = omega arith
  greatest-sum (x ∷ xs) = let e = greatest-sum xs in omega arith

  pub sum-greatest : (xs : List A) → sum_of weight xs ≤ length xs * greatest_of weight xs
  sum-greatest xs = sum-most weight (greatest_of weight xs) xs (within-greatest (greatest_of weight xs) xs (omega arith))

-- ---- answers

-- no accepted answer of those that can be tallied is higher than 32
pub heights-within : (answers : List Answer) → All (λ a. can_be_tallied a ≡ true) answers → All (λ a. a.height ≤ most_height) (those is_accepted answers)
heights-within [] h = tt
heights-within (a ∷ answers) h = go (eqb a.refusal 0) h.0 (heights-within answers h.1)
  where
    go : (b : Bool) → (not b || leb a.height most_height) ≡ true → All (λ a. a.height ≤ most_height) (those is_accepted answers)
        → All (λ a. a.height ≤ most_height) (if b then a ∷ those is_accepted answers else those is_accepted answers)
    go true e l = (leb-true a.height most_height e, l)
    go false e l = l

-- the numbers of a list with one answer more
pub count-snoc : (answers : List Answer) (a : Answer) → count_of (answers ++ a ∷ []) ≡ with_answer (count_of answers) a.refusal a.height
count-snoc answers a =
    rw (those-append is_accepted answers (a ∷ []), those-append is_refused answers (a ∷ []))
    (go (those is_accepted answers) (those is_refused answers) (eqb a.refusal 0))
  where
    go : (xs ys : List Answer) (b : Bool) →
        ◌≡◌ {A = Tally}
        (record {
          sum = sum_of front_height (xs ++ one_if is_accepted b a);
          accepted = length (xs ++ one_if is_accepted b a);
          refused = length (ys ++ one_if is_accepted (not b) a);
          greatest = greatest_of front_height (xs ++ one_if is_accepted b a);
        })
        (if b
        then record { sum = sum_of front_height xs + a.height; accepted = length xs + 1; refused = length ys; greatest = max (greatest_of front_height xs) a.height }
        else record { sum = sum_of front_height xs; accepted = length xs; refused = length ys + 1; greatest = greatest_of front_height xs })
    go xs ys true =
        λ i. record {
          sum = sum-snoc front_height xs a i;
          accepted = length-append xs (a ∷ []) i;
          refused = ap length (append-nil ys) i;
          greatest = greatest-snoc front_height xs a i;
        }
    go xs ys false =
        λ i. record {
          sum = ap (sum_of front_height) (append-nil xs) i;
          accepted = ap length (append-nil xs) i;
          refused = length-append ys (a ∷ []) i;
          greatest = ap (greatest_of front_height) (append-nil xs) i;
        }
