-- "The first rule that fits is used", and a call is refused by the first of its checks that applies: one law about
-- `first` serves both. The numbers of each call's checks stand in 01's order.
use Prim.Native.Nat.{ℕ}
use mathlib.Core.Path.{◌≡◌, refl, sym, ◌∙◌, ap}
use mathlib.Core.Logic.{◌↔◌}
use mathlib.Core.Bool.{Bool, true, false, not, true≢false}
use mathlib.Core.List.{List, [], ◌∷◌, ◌++◌, map}
use lib.Dec.{eqb}
use Rattle.model.specs.declared.Flags.{Flags}
use Rattle.model.specs.declared.Group.{Group}
use Rattle.model.specs.declared.Rule.{Rule}
use Rattle.std.specs.Prelude.{if◌then◌else◌}
use Rattle.model.specs.Lists.{first, pairwise, All, Pairwise, FirstFit}
use Rattle.model.specs.Refusals.{Check, accepted, refusal}
use Rattle.model.specs.Session.{State, sound}
use Rattle.model.specs.Rules.{rules_of, group_of, sought_by, fits, choose_in, choose}
use Rattle.model.specs.Calls.{Call, launch, start, finishing_start, back, look, restore, own_checks, checks_in, save_checks, refusal_of}
use Rattle.model.proofs.Logic.{not-decides, eqb-decides, pairwise-decides}

-- ---- the first that fits

-- what `first` gives: its default where no element passes the test, and else the first that does
pub data First {A : Type 0} (default : A) (test : A → Bool) (xs : List A) : A → Type 0 where
  none_fits : All (λ y. test y ≡ false) xs → First default test xs default
  first_fits : {x : A} → FirstFit test xs x → First default test xs x

module _ {A : Type 0} (d : A) (test : A → Bool) where
  first-first : (xs : List A) → First d test xs (first d test xs)
  first-first [] = none_fits tt
  first-first (x ∷ xs) = go (test x) refl (first-first xs)
    where
      further : test x ≡ false → (y : A) → First d test xs y → First d test (x ∷ xs) y
      further e y (none_fits h) = none_fits (e, h)
      further e y (first_fits f) =
          first_fits (record {
            before = x ∷ f.before;
            behind = f.behind;
            stands = ap (λ (l : List A). x ∷ l) f.stands;
            fails = (e, f.fails);
            fits = f.fits;
          })

      go : (b : Bool) → test x ≡ b → First d test xs (first d test xs) → First d test (x ∷ xs) (if b then x else first d test xs)
      go true e h = first_fits (record { before = []; behind = xs; stands = refl; fails = tt; fits = e })
      go false e h = further e (first d test xs) h

  none_first : (xs : List A) → All (λ y. test y ≡ false) xs → first d test xs ≡ d
  none_first [] h = refl
  none_first (x ∷ xs) h = rw (h.0, none_first xs h.1)

  split-first : (xs : List A) (y : A) (ys : List A) → All (λ z. test z ≡ false) xs → test y ≡ true → first d test (xs ++ y ∷ ys) ≡ y
  split-first [] y ys h e = rw e
  split-first (x ∷ xs) y ys h e = rw (h.0, split-first xs y ys h.1 e)

  -- `first` gives exactly that
  pub first-exact : (xs : List A) (x : A) → (first d test xs ≡ x) ↔ First d test xs x
  first-exact xs x = (λ e. rw e at (first-first xs), is x)
    where
      is : (y : A) → First d test xs y → first d test xs ≡ y
      is y (none_fits h) = none_first xs h
      is y (first_fits f) = rw f.stands (split-first f.before y f.behind f.fails f.fits)

  some_fits : (xs : List A) → (All (λ y. test y ≡ false) xs → ⊥) → FirstFit test xs (first d test xs)
  some_fits xs n = go (first d test xs) (first-first xs)
    where
      go : (y : A) → First d test xs y → FirstFit test xs y
      go y (none_fits h) = absurd (n h)
      go y (first_fits f) = f

-- ---- rules

module _ (tb : List ℕ) (s : State ℕ) (b : ℕ) (f : Flags) where
  -- the last rule of each group fits always
  group-fits : (g : Group) → All (λ r. fits tb s b f (sought_by tb s b f g) r ≡ false) (rules_of g) → ⊥
  unfolding rules_of fits
  group-fits Group.Instance h = true≢false h.1.0
  group-fits Group.Task h = true≢false h.1.1.1.0
  group-fits Group.NotApart h = true≢false h.1.1.1.0
  group-fits Group.Apart h = true≢false h.1.1.1.1.1.1.1.0

  -- "The first rule that fits is used": the rule chosen stands in its group and fits, and no earlier one of the group does
  pub choose-first : FirstFit (fits tb s b f (choose tb s b f).found) (rules_of (group_of tb s b f)) (choose tb s b f).rule
  unfolding choose choose_in
  choose-first =
      some_fits Rule.R18 (fits tb s b f (sought_by tb s b f (group_of tb s b f))) (rules_of (group_of tb s b f)) (group-fits (group_of tb s b f))

-- ---- refusals

-- the check lets the call pass
abbrev pub Passes : Check → Type 0
Passes c = c.applies ≡ false

-- what a list of checks gives: 0 where all let pass, and else the number of the first that applies
pub data Refused (cs : List Check) : ℕ → Type 0 where
  passed : All Passes cs → Refused cs 0
  refused_by : (c : Check) → FirstFit (λ x. x.applies) cs c → Refused cs c.refusal

-- `refusal` gives exactly that
pub refusal-first : (cs : List Check) (k : ℕ) → (refusal cs ≡ k) ↔ Refused cs k
unfolding refusal
refusal-first cs k = (λ e. rw e at (given (first accepted (λ c. c.applies) cs) (first-first accepted (λ c. c.applies) cs)), is k)
  where
    given : (c : Check) → First accepted (λ x. x.applies) cs c → Refused cs c.refusal
    given c (none_fits h) = passed h
    given c (first_fits f) = refused_by c f

    is : (n : ℕ) → Refused cs n → (first accepted (λ c. c.applies) cs).refusal ≡ n
    is n (passed h) = ap (λ (c : Check). c.refusal) ((first-exact accepted (λ c. c.applies) cs accepted).1 (none_fits h))
    is n (refused_by c f) = ap (λ (x : Check). x.refusal) ((first-exact accepted (λ c. c.applies) cs c).1 (first_fits f))

abbrev pub check_numbers : List Check → List ℕ
check_numbers cs = map (λ c. c.refusal) cs

-- no two checks of the list have the same number, and none has 0
abbrev pub numbers_differ : List Check → Bool
numbers_differ cs = pairwise (λ m n. not (eqb m n)) (0 ∷ check_numbers cs)

abbrev Differ : ℕ → ℕ → Type 0
Differ m n = m ≡ n → ⊥

differ-holds : (cs : List Check) → numbers_differ cs ≡ true → Pairwise Differ (0 ∷ check_numbers cs)
differ-holds cs e = (pairwise-decides (λ m n. not-decides (eqb-decides m n)) (0 ∷ check_numbers cs)).holds e

not-given : (k : ℕ) (cs : List Check) → Differ 0 k → All (Differ k) (check_numbers cs) → refusal cs ≡ k → ⊥
unfolding refusal
not-given k [] z h = z
not-given k (c ∷ cs) z h = go c.applies (not-given k cs z h.1)
  where
    go : (b : Bool) → (refusal cs ≡ k → ⊥) → (if b then c else first accepted (λ x. x.applies) cs).refusal ≡ k → ⊥
    go true n e = h.0 (sym e)
    go false n e = n e

number-differs : (k : ℕ) (before : List Check) (c : Check) (behind : List Check)
    → All (Differ k) (check_numbers (before ++ c ∷ behind)) → Differ k c.refusal
number-differs k [] c behind h = h.0
number-differs k (x ∷ xs) c behind h = number-differs k xs c behind h.1

given-at : (before : List Check) (c : Check) (behind : List Check) → Pairwise Differ (0 ∷ check_numbers (before ++ c ∷ behind))
    → refusal (before ++ c ∷ behind) ≡ c.refusal → All Passes before × (c.applies ≡ true)
unfolding refusal
given-at [] c behind h = go c.applies refl
  where
    go : (b : Bool) → c.applies ≡ b → (if b then c else first accepted (λ x. x.applies) behind).refusal ≡ c.refusal
        → Unit {0} × (c.applies ≡ true)
    go true e g = (tt, e)
    go false e g = absurd (not-given c.refusal behind h.0.0 h.1.0 g)
given-at (x ∷ xs) c behind h = go (given-at xs c behind (h.0.1, h.1.1)) x.applies refl
  where
    go : (refusal (xs ++ c ∷ behind) ≡ c.refusal → All Passes xs × (c.applies ≡ true)) → (b : Bool) → x.applies ≡ b
        → (if b then x else first accepted (λ y. y.applies) (xs ++ c ∷ behind)).refusal ≡ c.refusal
        → (Passes x × All Passes xs) × (c.applies ≡ true)
    go ih true e g = absurd (number-differs x.refusal xs c behind h.1.0 g)
    go ih false e g = ((e, (ih g).0), (ih g).1)

-- where the numbers differ, a check's number is given exactly where the checks before it let pass and it applies
pub refusal-at : (before : List Check) (c : Check) (behind : List Check) → numbers_differ (before ++ c ∷ behind) ≡ true
    → (refusal (before ++ c ∷ behind) ≡ c.refusal) ↔ (All Passes before × (c.applies ≡ true))
refusal-at before c behind differ = (
  given-at before c behind (differ-holds (before ++ c ∷ behind) differ),
  λ h.
      (refusal-first (before ++ c ∷ behind) c.refusal).1
      (refused_by c (record { before = before; behind = behind; stands = refl; fails = h.0; fits = h.1 })),
)

-- and 0 exactly where all checks let pass
pub refusal-none : (cs : List Check) → numbers_differ cs ≡ true → (refusal cs ≡ 0) ↔ All Passes cs
refusal-none cs differ = (λ e. go 0 ((refusal-first cs 0).0 e) refl, λ h. (refusal-first cs 0).1 (passed h))
  where
    go : (k : ℕ) → Refused cs k → k ≡ 0 → All Passes cs
    go k (passed h) e = h
    go k (refused_by c f) e =
        absurd (number-differs 0 f.before c f.behind (rw f.stands at (differ-holds cs differ).0) (sym e))

-- ---- the order of the checks

-- "The checks go in the order 1, 2, 20, then those named for the call." "launch gives 30, after 22"
abbrev pub check_order : Call → List ℕ
check_order (launch e) = 1 ∷ 2 ∷ 20 ∷ 22 ∷ 30 ∷ []
check_order (start b w) = 1 ∷ 2 ∷ 20 ∷ 3 ∷ 4 ∷ 21 ∷ 23 ∷ 24 ∷ []
check_order (finishing_start b w) = 1 ∷ 2 ∷ 20 ∷ 3 ∷ 4 ∷ 21 ∷ 23 ∷ 24 ∷ []
check_order back = 1 ∷ 2 ∷ 20 ∷ 21 ∷ []
check_order look = 1 ∷ 2 ∷ 20 ∷ []
check_order (restore bytes) = 1 ∷ 2 ∷ 20 ∷ 5 ∷ 6 ∷ 7 ∷ []

module _ (tb : List ℕ) (s : State ℕ) where
  -- all checks of a call
  abbrev pub checks_of : Call → List Check
  checks_of c = checks_in tb (sound tb s) (own_checks tb s c)

  -- their numbers stand in 01's order
  pub check-order : (c : Call) → check_numbers (checks_of c) ≡ check_order c
  unfolding own_checks
  check-order (launch e) = refl
  check-order (start b w) = refl
  check-order (finishing_start b w) = refl
  check-order back = refl
  check-order look = refl
  check-order (restore bytes) = refl

  pub save-order : (buffer : List ℕ) → check_numbers (checks_in tb (sound tb s) (save_checks s buffer)) ≡ 1 ∷ 2 ∷ 20 ∷ 8 ∷ []
  save-order buffer = refl

  checks-differ : (c : Call) → numbers_differ (checks_of c) ≡ true
  unfolding own_checks
  checks-differ (launch e) = refl
  checks-differ (start b w) = refl
  checks-differ (finishing_start b w) = refl
  checks-differ back = refl
  checks-differ look = refl
  checks-differ (restore bytes) = refl

  -- a call gets the number of one of its checks exactly where those before it let pass and it applies
  pub refusal-order : (c : Call) (before : List Check) (x : Check) (behind : List Check) → checks_of c ≡ before ++ x ∷ behind
      → (refusal_of tb s c ≡ x.refusal) ↔ (All Passes before × (x.applies ≡ true))
  unfolding refusal_of
  refusal-order c before x behind e = rw e (refusal-at before x behind (sym (ap numbers_differ e) ∙ checks-differ c))

  -- and it is accepted exactly where all let pass
  pub accepted-exactly : (c : Call) → (refusal_of tb s c ≡ 0) ↔ All Passes (checks_of c)
  unfolding refusal_of
  accepted-exactly c = refusal-none (checks_of c) (checks-differ c)
