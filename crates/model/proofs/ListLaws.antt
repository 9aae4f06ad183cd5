-- Laws of lists of anything: the words of specs/Lists.antt by length, by place and under a map, and what a search found.
use Prim.Native.Nat.{ℕ, zero, suc, ◌≤◌, ◌<◌, zero-le, suc-le-suc, pred}
use mathlib.Core.Path.{◌≡◌, refl, ◌∙◌, ap}
use mathlib.Core.Bool.{Bool, true, false, true≢false, false≢true}
use mathlib.Core.List.{List, [], ◌∷◌, ◌++◌, map}
use native.Mathlib.Nat.{le-suc, not-suc-le-zero, le_of_suc-le-suc}
use native.Mathlib.Omega.{arith}
use lib.ListN.{length, get_or, take, drop, set}
use Rattle.std.specs.Prelude.{if◌then◌else◌}
use Rattle.model.specs.Lists.{is_empty, is_place, further, find, omit, put_second, to_front, on_first, All, Pairwise}

-- ---- places

pub is_place-false : (p : ℕ) → is_place p ≡ false → p ≡ 0
is_place-false zero e = refl
is_place-false (suc k) e = absurd (true≢false e)

module _ {A : Type 0} where
  pub is_empty-length : (xs : List A) → is_empty xs ≡ false → 1 ≤ length xs
  is_empty-length [] e = absurd (true≢false e)
  is_empty-length (x ∷ xs) e = suc-le-suc zero-le

  -- ---- omit

  pub omit-length-le : (i : ℕ) (xs : List A) → length (omit i xs) ≤ length xs
  omit-length-le i [] = zero-le
  omit-length-le zero (x ∷ xs) = le-suc (length xs)
  omit-length-le (suc i) (x ∷ xs) = suc-le-suc (omit-length-le i xs)

  pub omit-length : (i : ℕ) (xs : List A) → i < length xs → suc (length (omit i xs)) ≡ length xs
  omit-length i [] l = absurd (not-suc-le-zero l)
  omit-length zero (x ∷ xs) l = refl
  omit-length (suc i) (x ∷ xs) l = ap suc (omit-length i xs (le_of_suc-le-suc l))

  -- a place at or before the omitted element stays inside
  pub omit-inside : (i j : ℕ) (xs : List A) → j ≤ i → j ≤ length xs → j ≤ length (omit i xs)
  omit-inside i j [] l h = h
  omit-inside i zero (x ∷ xs) l h = zero-le
  omit-inside zero (suc j) (x ∷ xs) l h = absurd (not-suc-le-zero l)
  omit-inside (suc i) (suc j) (x ∷ xs) l h = suc-le-suc (omit-inside i j xs (le_of_suc-le-suc l) (le_of_suc-le-suc h))

  pub omit-out : (i : ℕ) (xs : List A) → length xs ≤ i → omit i xs ≡ xs
  omit-out i [] l = refl
  omit-out zero (x ∷ xs) l = absurd (not-suc-le-zero l)
  omit-out (suc i) (x ∷ xs) l = ap (λ (ys : List A). x ∷ ys) (omit-out i xs (le_of_suc-le-suc l))

  pub omit-split : (i : ℕ) (xs : List A) → omit i xs ≡ take i xs ++ drop (suc i) xs
  omit-split zero [] = refl
  omit-split (suc i) [] = refl
  omit-split zero (x ∷ xs) = refl
  omit-split (suc i) (x ∷ xs) = ap (λ (ys : List A). x ∷ ys) (omit-split i xs)

  -- the elements before the omitted one keep their places, those behind it come one place nearer
  pub omit-before : (d : A) (i j : ℕ) (xs : List A) → j < i → get_or (omit i xs) j d ≡ get_or xs j d
  omit-before d i j [] l = refl
  omit-before d zero j (x ∷ xs) l = absurd (not-suc-le-zero l)
  omit-before d (suc i) zero (x ∷ xs) l = refl
  omit-before d (suc i) (suc j) (x ∷ xs) l = omit-before d i j xs (le_of_suc-le-suc l)

  pub omit-behind : (d : A) (i j : ℕ) (xs : List A) → i ≤ j → get_or (omit i xs) j d ≡ get_or xs (suc j) d
  omit-behind d i zero [] l = refl
  omit-behind d i (suc j) [] l = refl
  omit-behind d zero j (x ∷ xs) l = refl
  omit-behind d (suc i) zero (x ∷ xs) l = absurd (not-suc-le-zero l)
  omit-behind d (suc i) (suc j) (x ∷ xs) l = omit-behind d i j xs (le_of_suc-le-suc l)

  -- ---- to_front

  pub put_second-length : (x : A) (xs : List A) → length (put_second x xs) ≡ suc (length xs)
  put_second-length x [] = refl
  put_second-length x (y ∷ ys) = refl

  pub to_front-length : (k : ℕ) (xs : List A) → length (to_front k xs) ≡ length xs
  to_front-length k [] = refl
  to_front-length zero (x ∷ xs) = refl
  to_front-length (suc k) (x ∷ xs) = put_second-length x (to_front k xs) ∙ ap suc (to_front-length k xs)

  pub to_front-zero : (xs : List A) → to_front 0 xs ≡ xs
  to_front-zero [] = refl
  to_front-zero (x ∷ xs) = refl

  -- the element behind k others, and then the list without it
  pub to_front-omit : (d : A) (k : ℕ) (xs : List A) → k < length xs → to_front k xs ≡ get_or xs k d ∷ omit k xs
  to_front-omit d k [] l = absurd (not-suc-le-zero l)
  to_front-omit d zero (x ∷ xs) l = refl
  to_front-omit d (suc k) (x ∷ xs) l = ap (put_second x) (to_front-omit d k xs (le_of_suc-le-suc l))

  pub to_front-split : (d : A) (k : ℕ) (xs : List A) → k < length xs → to_front k xs ≡ get_or xs k d ∷ (take k xs ++ drop (suc k) xs)
  to_front-split d k xs l = to_front-omit d k xs l ∙ ap (λ (ys : List A). get_or xs k d ∷ ys) (omit-split k xs)

  -- the element behind k others comes first, those before it go one place further, those behind it keep their places
  pub to_front-first : (d : A) (k : ℕ) (xs : List A) → k < length xs → get_or (to_front k xs) 0 d ≡ get_or xs k d
  to_front-first d k xs l = ap (λ (ys : List A). get_or ys 0 d) (to_front-omit d k xs l)

  pub to_front-before : (d : A) (k j : ℕ) (xs : List A) → k < length xs → j < k → get_or (to_front k xs) (suc j) d ≡ get_or xs j d
  to_front-before d k j xs l h = ap (λ (ys : List A). get_or ys (suc j) d) (to_front-omit d k xs l) ∙ omit-before d k j xs h

  pub to_front-behind : (d : A) (k j : ℕ) (xs : List A) → k < length xs → k ≤ j → get_or (to_front k xs) (suc j) d ≡ get_or xs (suc j) d
  to_front-behind d k j xs l h = ap (λ (ys : List A). get_or ys (suc j) d) (to_front-omit d k xs l) ∙ omit-behind d k j xs h

  -- ---- on_first

  pub on_first-length : (f : A → A) (xs : List A) → length (on_first f xs) ≡ length xs
  on_first-length f [] = refl
  on_first-length f (x ∷ xs) = refl

  -- ---- All

  module _ (P : A → Type 0) where
    pub All-omit : (i : ℕ) (xs : List A) → All P xs → All P (omit i xs)
    All-omit i [] h = tt
    All-omit zero (x ∷ xs) h = h.1
    All-omit (suc i) (x ∷ xs) h = (h.0, All-omit i xs h.1)

    pub All-drop : (k : ℕ) (xs : List A) → All P xs → All P (drop k xs)
    All-drop zero xs h = h
    All-drop (suc k) [] h = h
    All-drop (suc k) (x ∷ xs) h = All-drop k xs h.1

    pub All-take : (k : ℕ) (xs : List A) → All P xs → All P (take k xs)
    All-take zero xs h = tt
    All-take (suc k) [] h = h
    All-take (suc k) (x ∷ xs) h = (h.0, All-take k xs h.1)

    pub All-append : (xs ys : List A) → All P xs → All P ys → All P (xs ++ ys)
    All-append [] ys h k = k
    All-append (x ∷ xs) ys h k = (h.0, All-append xs ys h.1 k)

    pub All-set : (k : ℕ) (x : A) (xs : List A) → (k < length xs → P x) → All P xs → All P (set xs k x)
    All-set k x [] p h = tt
    All-set zero x (y ∷ xs) p h = (p (suc-le-suc zero-le), h.1)
    All-set (suc k) x (y ∷ xs) p h = (h.0, All-set k x xs (λ l. p (suc-le-suc l)) h.1)

    pub All-putSecond : (x : A) (xs : List A) → P x → All P xs → All P (put_second x xs)
    All-putSecond x [] p h = (p, tt)
    All-putSecond x (y ∷ ys) p h = (h.0, (p, h.1))

    pub All-toFront : (k : ℕ) (xs : List A) → All P xs → All P (to_front k xs)
    All-toFront k [] h = tt
    All-toFront zero (x ∷ xs) h = h
    All-toFront (suc k) (x ∷ xs) h = All-putSecond x (to_front k xs) h.0 (All-toFront k xs h.1)

    -- the first element is changed into one of which the statement holds
    pub All-onFirst : (f : A → A) (d : A) (xs : List A) → (1 ≤ length xs → P (f (get_or xs 0 d))) → All P xs → All P (on_first f xs)
    All-onFirst f d [] p h = tt
    All-onFirst f d (x ∷ xs) p h = (p (suc-le-suc zero-le), h.1)

  -- ---- Pairwise

  module _ (R : A → A → Type 0) where
    pub Pairwise-omit : (i : ℕ) (xs : List A) → Pairwise R xs → Pairwise R (omit i xs)
    Pairwise-omit i [] h = tt
    Pairwise-omit zero (x ∷ xs) h = h.1
    Pairwise-omit (suc i) (x ∷ xs) h = (All-omit (R x) i xs h.0, Pairwise-omit i xs h.1)

    pub Pairwise-drop : (k : ℕ) (xs : List A) → Pairwise R xs → Pairwise R (drop k xs)
    Pairwise-drop zero xs h = h
    Pairwise-drop (suc k) [] h = h
    Pairwise-drop (suc k) (x ∷ xs) h = Pairwise-drop k xs h.1

    module _ (flip : (x y : A) → R x y → R y x) where
      Pairwise-putSecond : (x : A) (xs : List A) → All (R x) xs → Pairwise R xs → Pairwise R (put_second x xs)
      Pairwise-putSecond x [] a h = (tt, tt)
      Pairwise-putSecond x (y ∷ ys) a h = ((flip x y a.0, h.0), (a.1, h.1))

      pub Pairwise-toFront : (k : ℕ) (xs : List A) → Pairwise R xs → Pairwise R (to_front k xs)
      Pairwise-toFront k [] h = tt
      Pairwise-toFront zero (x ∷ xs) h = h
      Pairwise-toFront (suc k) (x ∷ xs) h =
          Pairwise-putSecond x (to_front k xs) (All-toFront (R x) k xs h.0) (Pairwise-toFront k xs h.1)

  -- ---- find

  module _ (q : A → Bool) (d : A) where
    -- what a search found: the test holds there, and of no earlier element
    pub record FoundAt (xs : List A) (k : ℕ) : Type 0 where
      pub inside : k < length xs
      pub fits : q (get_or xs k d) ≡ true
      pub earlier : (j : ℕ) → j < k → q (get_or xs j d) ≡ false

    pub find_spec : (xs : List A) (k : ℕ) → find q xs ≡ suc k → FoundAt xs k
    find_spec [] k e = absurd (omega arith)
    find_spec (x ∷ xs) k e = go (find_spec xs) (q x) refl (find q xs) refl e
      where
        later : (n : ℕ) → q x ≡ false → FoundAt xs n → FoundAt (x ∷ xs) (suc n)
        later n f r = record { inside = suc-le-suc r.inside; fits = r.fits; earlier = λ j l. at j l }
          where
            at : (j : ℕ) → j < suc n → q (get_or (x ∷ xs) j d) ≡ false
            at zero l = f
            at (suc j) l = r.earlier j (le_of_suc-le-suc l)

        go : ((j : ℕ) → find q xs ≡ suc j → FoundAt xs j) → (b : Bool) → q x ≡ b → (n : ℕ) → find q xs ≡ n
            → (if b then 1 else further n) ≡ suc k → FoundAt (x ∷ xs) k
        go ih true f n g e =
            let z : 0 ≡ k = omega arith in
            rw (← z) (record { inside = suc-le-suc zero-le; fits = f; earlier = λ j l. absurd (not-suc-le-zero l) })
        go ih false f zero g e = absurd (omega arith)
        go ih false f (suc n) g e = let z : suc n ≡ k = omega arith in rw (← z) (later n f (ih n g))

    pub find_none : (xs : List A) → find q xs ≡ 0 → All (λ x. q x ≡ false) xs
    find_none [] e = tt
    find_none (x ∷ xs) e = go (find_none xs) (q x) refl (find q xs) refl e
      where
        go : (find q xs ≡ 0 → All (λ y. q y ≡ false) xs) → (b : Bool) → q x ≡ b → (n : ℕ) → find q xs ≡ n
            → (if b then 1 else further n) ≡ 0 → (q x ≡ false) × All (λ y. q y ≡ false) xs
        go ih true f n g e = absurd (omega arith)
        go ih false f zero g e = (f, ih g)
        go ih false f (suc n) g e = absurd (omega arith)

    pub found_none : (xs : List A) → is_place (find q xs) ≡ false → All (λ x. q x ≡ false) xs
    found_none xs h = find_none xs (is_place-false (find q xs) h)

    -- where something was found
    pub found_at : (xs : List A) → is_place (find q xs) ≡ true → FoundAt xs (pred (find q xs))
    found_at xs h = go (find q xs) refl h
      where
        go : (n : ℕ) → find q xs ≡ n → is_place n ≡ true → FoundAt xs (pred n)
        go zero e h = absurd (false≢true h)
        go (suc k) e h = find_spec xs k e

-- ---- maps

module _ {A B : Type 0} (f : A → B) where
  pub map-omit : (i : ℕ) (xs : List A) → map f (omit i xs) ≡ omit i (map f xs)
  map-omit i [] = refl
  map-omit zero (x ∷ xs) = refl
  map-omit (suc i) (x ∷ xs) = ap (λ (ys : List B). f x ∷ ys) (map-omit i xs)

  pub map-set : (k : ℕ) (x : A) (xs : List A) → map f (set xs k x) ≡ set (map f xs) k (f x)
  map-set k x [] = refl
  map-set zero x (y ∷ ys) = refl
  map-set (suc k) x (y ∷ ys) = ap (λ (zs : List B). f y ∷ zs) (map-set k x ys)

  pub map-put_second : (x : A) (xs : List A) → map f (put_second x xs) ≡ put_second (f x) (map f xs)
  map-put_second x [] = refl
  map-put_second x (y ∷ ys) = refl

  pub map-to_front : (k : ℕ) (xs : List A) → map f (to_front k xs) ≡ to_front k (map f xs)
  map-to_front k [] = refl
  map-to_front zero (x ∷ xs) = refl
  map-to_front (suc k) (x ∷ xs) = map-put_second x (to_front k xs) ∙ ap (put_second (f x)) (map-to_front k xs)

  pub map-drop : (k : ℕ) (xs : List A) → map f (drop k xs) ≡ drop k (map f xs)
  map-drop zero xs = refl
  map-drop (suc k) [] = refl
  map-drop (suc k) (x ∷ xs) = map-drop k xs

  -- a change before the map is the other change after it
  pub map-on_first : (g : A → A) (h : B → B) → ((x : A) → f (g x) ≡ h (f x))
      → (xs : List A) → map f (on_first g xs) ≡ on_first h (map f xs)
  map-on_first g h e [] = refl
  map-on_first g h e (x ∷ xs) = ap (λ (y : B). y ∷ map f xs) (e x)

  pub find-map : (q : B → Bool) (xs : List A) → find q (map f xs) ≡ find (λ x. q (f x)) xs
  find-map q [] = refl
  find-map q (x ∷ xs) = ap (λ (n : ℕ). if q (f x) then 1 else further n) (find-map q xs)

  pub is_empty-map : (xs : List A) → is_empty (map f xs) ≡ is_empty xs
  is_empty-map [] = refl
  is_empty-map (x ∷ xs) = refl

  -- a statement about what the map makes of the elements
  pub All-to-map : (P : B → Type 0) (xs : List A) → All (λ x. P (f x)) xs → All P (map f xs)
  All-to-map P [] h = tt
  All-to-map P (x ∷ xs) h = (h.0, All-to-map P xs h.1)

  pub All-of-map : (P : B → Type 0) (xs : List A) → All P (map f xs) → All (λ x. P (f x)) xs
  All-of-map P [] h = tt
  All-of-map P (x ∷ xs) h = (h.0, All-of-map P xs h.1)

  pub Pairwise-to-map : (R : B → B → Type 0) (xs : List A) → Pairwise (λ x y. R (f x) (f y)) xs → Pairwise R (map f xs)
  Pairwise-to-map R [] h = tt
  Pairwise-to-map R (x ∷ xs) h = (All-to-map (R (f x)) xs h.0, Pairwise-to-map R xs h.1)

  pub Pairwise-of-map : (R : B → B → Type 0) (xs : List A) → Pairwise R (map f xs) → Pairwise (λ x y. R (f x) (f y)) xs
  Pairwise-of-map R [] h = tt
  Pairwise-of-map R (x ∷ xs) h = (All-of-map (R (f x)) xs h.0, Pairwise-of-map R xs h.1)
