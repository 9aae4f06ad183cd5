-- Words about tests and lists that the other definitions are written in. Nothing here is about navigation.
use Rattle.std.specs.Prelude.{if◌then◌else◌, ℕ, zero, suc, ◌+◌, ◌≡◌, Bool, true, false, ◌&&◌, List, [], ◌∷◌, ◌++◌}

-- the test holds of each number below n
abbrev pub all_below : ℕ → (ℕ → Bool) → Bool
all_below zero p = true
all_below (suc n) p = all_below n p && p n

-- a place counts from 1; 0 stands for none
abbrev pub is_place : ℕ → Bool
is_place zero = false
is_place (suc k) = true

-- the same place after one more was put in front; none stays none
abbrev pub further : ℕ → ℕ
further zero = zero
further (suc k) = suc (suc k)

module _ {A : Type 0} where
  abbrev pub is_empty : List A → Bool
  is_empty [] = true
  is_empty (x ∷ xs) = false

  -- the test holds of each element
  abbrev pub all : (A → Bool) → List A → Bool
  all p [] = true
  all p (x ∷ xs) = p x && all p xs

  -- the test holds between each element and each later one
  abbrev pub pairwise : (A → A → Bool) → List A → Bool
  pairwise r [] = true
  pairwise r (x ∷ xs) = all (r x) xs && pairwise r xs

  -- the first element of which the test holds, or d where there is none
  abbrev pub first : A → (A → Bool) → List A → A
  first d p [] = d
  first d p (x ∷ xs) = if p x then x else first d p xs

  -- the place of the first element of which the test holds, or 0
  abbrev pub find : (A → Bool) → List A → ℕ
  find p [] = zero
  find p (x ∷ xs) = if p x then 1 else further (find p xs)

  -- without the element that stands behind i others
  abbrev pub omit : ℕ → List A → List A
  omit i [] = []
  omit zero (x ∷ xs) = xs
  omit (suc i) (x ∷ xs) = x ∷ omit i xs

  -- x is put behind the first element
  abbrev pub put_second : A → List A → List A
  put_second x [] = x ∷ []
  put_second x (y ∷ ys) = y ∷ x ∷ ys

  -- the element that stands behind k others comes to the front, the others keep their order
  abbrev pub to_front : ℕ → List A → List A
  to_front k [] = []
  to_front zero (x ∷ xs) = x ∷ xs
  to_front (suc k) (x ∷ xs) = put_second x (to_front k xs)

  -- the first element is changed
  abbrev pub on_first : (A → A) → List A → List A
  on_first f [] = []
  on_first f (x ∷ xs) = f x ∷ xs

  -- the sum of what the elements weigh
  abbrev pub sum_of : (A → ℕ) → List A → ℕ
  sum_of weight [] = 0
  sum_of weight (x ∷ xs) = weight x + sum_of weight xs

  -- the statement holds of each element
  abbrev pub All : (A → Type 0) → List A → Type 0
  All P [] = Unit {0}
  All P (x ∷ xs) = P x × All P xs

  -- the statement holds between each element and each later one
  abbrev pub Pairwise : (A → A → Type 0) → List A → Type 0
  Pairwise R [] = Unit {0}
  Pairwise R (x ∷ xs) = All (R x) xs × Pairwise R xs

-- x is the first of xs that passes the test
pub record FirstFit {A : Type 0} (test : A → Bool) (xs : List A) (x : A) : Type 0 where
  pub before : List A
  pub behind : List A
  pub stands : xs ≡ before ++ x ∷ behind
  pub fails : All (λ y. test y ≡ false) before
  pub fits : test x ≡ true
