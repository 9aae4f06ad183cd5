-- Tests of every element, as a loop makes them: at place i the rest decides.
use Prim.Native.Nat.{ℕ, zero, suc, ◌+◌, ◌≤◌, ◌<◌}
use mathlib.Core.Path.{◌≡◌, refl, sym, ◌∙◌, ap, subst}
use mathlib.Core.Bool.{Bool, true, false, not, ◌&&◌, and-true, and-false, and_comm, and_assoc}
use mathlib.Core.List.{List, [], ◌∷◌, ◌++◌, map, reverse, reverse-cons}
use native.Mathlib.Nat.{not-suc-le-zero, le_of_suc-le-suc}
use native.Mathlib.Numerals.{add-one}
use native.Mathlib.Omega.{arith}
use lib.Dec.{eqb, ltb}
use lib.ListN.{length, get_or, take, drop, drop_of_length-le}
use lib.Seq.{drop-cons, get_or-take, length-take-le}
use borrow.Author.Tests.{ltb-true, ltb-false, eqb-true, eq-eqb, not-true, not-false}
use Rattle.model.specs.Lists.{all, pairwise, all_below}
use Rattle.model.proofs.Logic.{Decides, and-decides, eqb-decides, same_test, and_left, and_right}

-- ---- a call's answer r, which is the test b, where code goes on by `if !r`

pub said-yes : {r b : Bool} → r ≡ b → not r ≡ false → b ≡ true
said-yes {r} e f = sym e ∙ not-false r f

pub said-no : {r b : Bool} → r ≡ b → not r ≡ true → b ≡ false
said-no {r} e f = sym e ∙ not-true r f

-- ---- each number below n

module _ {p : ℕ → Bool} {P : ℕ → Type 0} (d : (x : ℕ) → Decides (p x) (P x)) where
  pub below-decides : (n : ℕ) → Decides (all_below n p) ((x : ℕ) → x < n → P x)
  below-decides zero = record { holds = λ h x l. absurd (not-suc-le-zero l); shows = λ h. refl }
  below-decides (suc n) =
      let e : Decides (all_below n p && p n) (((x : ℕ) → x < n → P x) × P n) = and-decides (below-decides n) (d n) in
      record {
        holds = λ h x l. go x l (e.holds h) (ltb x n) refl;
        shows = λ f. e.shows (λ x l. f x (omega arith), f n (omega arith));
      }
    where
      go : (x : ℕ) → x < suc n → ((y : ℕ) → y < n → P y) × P n → (b : Bool) → ltb x n ≡ b → P x
      go x l r true t = r.0 x (ltb-true x n t)
      go x l r false t =
          let f = ltb-false x n t in
          let q : n ≡ x = omega arith in
          subst P q r.1

-- ---- each element of a list

module _ {A : Type 0} where
  module _ (p : A → Bool) where
    pub all-step : (l : List A) (i : ℕ) (d : A) → i < length l → all p (drop i l) ≡ (p (get_or l i d) && all p (drop (i + 1) l))
    all-step l i d h = rw (add-one i, drop-cons l i d h)

    pub all_end : (l : List A) (i : ℕ) → length l ≤ i → all p (drop i l) ≡ true
    all_end l i h = rw (drop_of_length-le l h)

    pub all_append : (xs ys : List A) → all p (xs ++ ys) ≡ (all p xs && all p ys)
    all_append [] ys = refl
    all_append (x ∷ xs) ys = ap (λ (b : Bool). p x && b) (all_append xs ys) ∙ sym (and_assoc (p x) (all p xs) (all p ys))

    pub all-reverse : (xs : List A) → all p (reverse xs) ≡ all p xs
    all-reverse [] = refl
    all-reverse (x ∷ xs) =
        ap (all p) (reverse-cons x xs) ∙ all_append (reverse xs) (x ∷ [])
        ∙ rw (all-reverse xs, and-true (p x)) (and_comm (all p xs) (p x))

    -- a turn of a loop: the element at i fails, or the rest decides
    module _ (l : List A) (i : ℕ) (d : A) (h : i < length l) where
      pub all-fail : p (get_or l i d) ≡ false → all p (drop i l) ≡ false
      all-fail e = all-step l i d h ∙ rw e

      pub all-next : p (get_or l i d) ≡ true → all p (drop i l) ≡ all p (drop (i + 1) l)
      all-next e = all-step l i d h ∙ rw e

    -- the same over the first n elements
    module _ (l : List A) (n : ℕ) (fits : n ≤ length l) (i : ℕ) where
      size : length (take n l) ≡ n
      size = length-take-le n l fits

      pub all-take-fail : (d : A) → i < n → p (get_or l i d) ≡ false → all p (drop i (take n l)) ≡ false
      all-take-fail d h e = all-fail (take n l) i d (omega (arith, size)) (ap p (get_or-take n l i d h) ∙ e)

      pub all-take-next : (d : A) → i < n → p (get_or l i d) ≡ true → all p (drop i (take n l)) ≡ all p (drop (i + 1) (take n l))
      all-take-next d h e = all-next (take n l) i d (omega (arith, size)) (ap p (get_or-take n l i d h) ∙ e)

      pub all-take-end : n ≤ i → all p (drop i (take n l)) ≡ true
      all-take-end h = all_end (take n l) i (omega (arith, size))

  -- what holds of every element holds of the one at i
  pub all-at : (p : A → Bool) (l : List A) (i : ℕ) (d : A) → i < length l → all p l ≡ true → p (get_or l i d) ≡ true
  all-at p [] i d h e = absurd (not-suc-le-zero h)
  all-at p (x ∷ xs) zero d h e = and_left (p x) (all p xs) e
  all-at p (x ∷ xs) (suc i) d h e = all-at p xs i d (le_of_suc-le-suc h) (and_right (p x) (all p xs) e)

  pub all-take-at : (p : A → Bool) (l : List A) (n : ℕ) → n ≤ length l → (i : ℕ) (d : A) → i < n → all p (take n l) ≡ true → p (get_or l i d) ≡ true
  all-take-at p l n fits i d h e =
      sym (ap p (get_or-take n l i d h)) ∙ all-at p (take n l) i d (omega (arith, length-take-le n l fits)) e

  pub all_true : (p : A → Bool) → ((x : A) → p x ≡ true) → (xs : List A) → all p xs ≡ true
  all_true p e [] = refl
  all_true p e (x ∷ xs) = rw (e x, all_true p e xs)

  pub all-cong : (p q : A → Bool) → ((x : A) → p x ≡ q x) → (xs : List A) → all p xs ≡ all q xs
  all-cong p q e [] = refl
  all-cong p q e (x ∷ xs) = rw (e x, all-cong p q e xs)

  -- two tests at once
  pub all_both : (p q : A → Bool) (xs : List A) → (all p xs && all q xs) ≡ all (λ x. p x && q x) xs
  all_both p q [] = refl
  all_both p q (x ∷ xs) = go (p x) (q x) (all p xs) (all q xs) (all_both p q xs)
    where
      go : (a b c d : Bool) {r : Bool} → (c && d) ≡ r → ((a && c) && (b && d)) ≡ ((a && b) && r)
      go true true c d e = e
      go true false c d e = and-false c
      go false b c d e = refl

module _ {A B : Type 0} (f : A → B) where
  pub all_map : (p : B → Bool) (xs : List A) → all p (map f xs) ≡ all (λ x. p (f x)) xs
  all_map p [] = refl
  all_map p (x ∷ xs) = ap (λ (b : Bool). p (f x) && b) (all_map p xs)

-- ---- each pair of elements

module _ {A : Type 0} (r : A → A → Bool) where
  pub pairwise-step : (l : List A) (i : ℕ) (d : A) → i < length l
      → pairwise r (drop i l) ≡ (all (r (get_or l i d)) (drop (i + 1) l) && pairwise r (drop (i + 1) l))
  pairwise-step l i d h = rw (add-one i, drop-cons l i d h)

  pub pairwise-end : (l : List A) (i : ℕ) → length l ≤ i → pairwise r (drop i l) ≡ true
  pairwise-end l i h = rw (drop_of_length-le l h)

  -- the same over the first n elements
  module _ (l : List A) (n : ℕ) (fits : n ≤ length l) (i : ℕ) where
    pub pairwise-take-step : (d : A) → i < n
        → pairwise r (drop i (take n l)) ≡ (all (r (get_or l i d)) (drop (i + 1) (take n l)) && pairwise r (drop (i + 1) (take n l)))
    pairwise-take-step d h =
        pairwise-step (take n l) i d (omega (arith, length-take-le n l fits)) ∙ rw (get_or-take n l i d h)

    pub pairwise-take-end : n ≤ i → pairwise r (drop i (take n l)) ≡ true
    pairwise-take-end h = pairwise-end (take n l) i (omega (arith, length-take-le n l fits))

module _ {A B : Type 0} (f : A → B) where
  pub pairwise_map : (r : B → B → Bool) (xs : List A) → pairwise r (map f xs) ≡ pairwise (λ x y. r (f x) (f y)) xs
  pairwise_map r [] = refl
  pairwise_map r (x ∷ xs) = rw (all_map f (r (f x)) xs, pairwise_map r xs)

-- ---- zeros

-- two numbers are 0 where their sum is
pub sum-zero : (a b : ℕ) → eqb 0 (a + b) ≡ (eqb 0 a && eqb 0 b)
sum-zero a b = same_test
    (record {
      holds = λ h. let e = eqb-true 0 (a + b) h in (omega arith, omega arith);
      shows = λ k. eq-eqb 0 (a + b) (omega arith);
    })
    (and-decides (eqb-decides 0 a) (eqb-decides 0 b))
