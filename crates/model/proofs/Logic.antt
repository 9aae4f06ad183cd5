-- Tests and the statements that they decide; what is known of the first that fits.
use Prim.Native.Nat.{ℕ, zero, suc, ◌≤◌, ◌<◌}
use mathlib.Core.Path.{◌≡◌, refl, sym, ◌∙◌}
use mathlib.Core.Bool.{Bool, true, false, not, ◌&&◌, ◌||◌, true≢false, false≢true}
use mathlib.Core.List.{List, [], ◌∷◌}
use native.Mathlib.Nat.{not-suc-le-zero, le_of_suc-le-suc}
use lib.Dec.{leb, ltb, eqb}
use lib.ListN.{length, get_or}
use borrow.Author.Tests.{ltb-true, leb-true, eqb-true, lt-ltb, le-leb, eq-eqb, not-true}
use Rattle.std.specs.Prelude.{if◌then◌else◌}
use Rattle.model.specs.Lists.{all, pairwise, All, Pairwise, first}

-- ---- deciding

-- the test is true exactly where the statement holds
pub record Decides (b : Bool) (P : Type 0) : Type 0 where
  pub holds : b ≡ true → P
  pub shows : P → b ≡ true

and-decides' : {P Q : Type 0} (a b : Bool) → Decides a P → Decides b Q → Decides (a && b) (P × Q)
and-decides' true b d e = record { holds = λ h. (d.holds refl, e.holds h); shows = λ h. e.shows h.1 }
and-decides' false b d e = record { holds = λ h. absurd (false≢true h); shows = λ h. d.shows h.0 }

pub and-decides : {P Q : Type 0} {a b : Bool} → Decides a P → Decides b Q → Decides (a && b) (P × Q)
and-decides {a} {b} d e = and-decides' a b d e

pub not-decides : {P : Type 0} {a : Bool} → Decides a P → Decides (not a) (P → ⊥)
not-decides {P} {a} d = record { holds = λ h p. true≢false (sym (d.shows p) ∙ not-true a h); shows = λ f. go a refl f }
  where
    go : (c : Bool) → a ≡ c → (P → ⊥) → not c ≡ true
    go true e f = absurd (f (d.holds e))
    go false e f = refl

pub leb-decides : (m n : ℕ) → Decides (leb m n) (m ≤ n)
leb-decides m n = record { holds = leb-true m n; shows = le-leb m n }

pub ltb-decides : (m n : ℕ) → Decides (ltb m n) (m < n)
ltb-decides m n = record { holds = ltb-true m n; shows = lt-ltb m n }

pub eqb-decides : (m n : ℕ) → Decides (eqb m n) (m ≡ n)
eqb-decides m n = record { holds = eqb-true m n; shows = eq-eqb m n }

pub self-decides : (b : Bool) → Decides b (b ≡ true)
self-decides b = record { holds = λ h. h; shows = λ h. h }

pub false-decides : (b : Bool) → Decides (not b) (b ≡ false)
false-decides true = record { holds = λ h. sym h; shows = λ h. sym h }
false-decides false = record { holds = λ h. refl; shows = λ h. refl }

module _ {A : Type 0} where
  pub all-decides : {p : A → Bool} {P : A → Type 0} → ((x : A) → Decides (p x) (P x)) → (xs : List A) → Decides (all p xs) (All P xs)
  all-decides d [] = record { holds = λ h. tt; shows = λ h. refl }
  all-decides d (x ∷ xs) = and-decides (d x) (all-decides d xs)

  pub pairwise-decides : {r : A → A → Bool} {R : A → A → Type 0}
      → ((x y : A) → Decides (r x y) (R x y)) → (xs : List A) → Decides (pairwise r xs) (Pairwise R xs)
  pairwise-decides d [] = record { holds = λ h. tt; shows = λ h. refl }
  pairwise-decides d (x ∷ xs) = and-decides (all-decides (d x) xs) (pairwise-decides d xs)

-- a test whose statement fails
pub refuted : {P : Type 0} (b : Bool) → Decides b P → (P → ⊥) → b ≡ false
refuted true d n = absurd (n (d.holds refl))
refuted false d n = refl

-- two tests of one statement
pub same_test : {P : Type 0} {a b : Bool} → Decides a P → Decides b P → a ≡ b
same_test {P} {a} {b} d e = go a b refl refl
  where
    go : (x y : Bool) → a ≡ x → b ≡ y → x ≡ y
    go true true p q = refl
    go true false p q = sym (e.shows (d.holds p)) ∙ q
    go false true p q = sym p ∙ d.shows (e.holds q)
    go false false p q = refl

pub and_left : (a b : Bool) → (a && b) ≡ true → a ≡ true
and_left a b e = ((and-decides (self-decides a) (self-decides b)).holds e).0

pub and_right : (a b : Bool) → (a && b) ≡ true → b ≡ true
and_right a b e = ((and-decides (self-decides a) (self-decides b)).holds e).1

pub or-false-right : (a b : Bool) → (a || b) ≡ false → b ≡ false
or-false-right true b e = absurd (true≢false e)
or-false-right false b e = e

pub or-true-left : (a b : Bool) → b ≡ false → (a || b) ≡ true → a ≡ true
or-true-left true b f e = refl
or-true-left false b f e = sym f ∙ e

pub and-false-right : (a b : Bool) → a ≡ true → (a && b) ≡ false → b ≡ false
and-false-right true b f e = e
and-false-right false b f e = absurd (true≢false (sym f))

-- from a test that was both true and false
pub contradiction : {A : Type 0} {b : Bool} → b ≡ true → b ≡ false → A
contradiction e f = absurd (true≢false (sym e ∙ f))

-- ---- All

module _ {A : Type 0} where
  pub All-map : {P Q : A → Type 0} → ((x : A) → P x → Q x) → (xs : List A) → All P xs → All Q xs
  All-map f [] h = tt
  All-map f (x ∷ xs) h = (f x h.0, All-map f xs h.1)

  pub Pairwise-map : {P Q : A → A → Type 0} → ((x y : A) → P x y → Q x y) → (xs : List A) → Pairwise P xs → Pairwise Q xs
  Pairwise-map f [] h = tt
  Pairwise-map f (x ∷ xs) h = (All-map (f x) xs h.0, Pairwise-map f xs h.1)

  pub All-of : {P : A → Type 0} → ((x : A) → P x) → (xs : List A) → All P xs
  All-of f [] = tt
  All-of f (x ∷ xs) = (f x, All-of f xs)

  pub All-at : (P : A → Type 0) (xs : List A) (i : ℕ) (d : A) → i < length xs → All P xs → P (get_or xs i d)
  All-at P [] i d l h = absurd (not-suc-le-zero l)
  All-at P (x ∷ xs) zero d l h = h.0
  All-at P (x ∷ xs) (suc i) d l h = All-at P xs i d (le_of_suc-le-suc l) h.1

-- ---- the first that fits

module _ {A : Type 0} where
  pub if-elim : (P : A → Type 0) (b : Bool) (x y : A) → (b ≡ true → P x) → (b ≡ false → P y) → P (if b then x else y)
  if-elim P true x y f g = f refl
  if-elim P false x y f g = g refl

  -- what is to be shown of each element, from its test and the failed tests before it
  abbrev pub Each : (A → Type 0) → A → (A → Bool) → List A → Type 0
  Each P d p [] = P d
  Each P d p (x ∷ xs) = (p x ≡ true → P x) × (p x ≡ false → Each P d p xs)

  pub first-elim : (P : A → Type 0) (d : A) (p : A → Bool) (xs : List A) → Each P d p xs → P (first d p xs)
  first-elim P d p [] h = h
  first-elim P d p (x ∷ xs) h = if-elim P (p x) x (first d p xs) h.0 (λ e. first-elim P d p xs (h.1 e))

-- the last rule of a group fits always
pub never : {A : Type 0} → true ≡ false → A
never e = absurd (true≢false e)
