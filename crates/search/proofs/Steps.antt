-- A search as a loop makes it: at index i the rest of the list decides, and its place is counted from i.
use Prim.Native.Nat.{ℕ, zero, suc, ◌+◌, ◌≤◌, ◌<◌}
use mathlib.Core.Path.{◌≡◌, refl, sym}
use mathlib.Core.Bool.{Bool, true, false, not, cond}
use mathlib.Core.List.{List, [], ◌∷◌}
use native.Mathlib.Numerals.{add-one}
use native.Mathlib.Omega.{arith}
use lib.Dec.{ltb}
use lib.ListN.{length, get_or, drop, drop_of_length-le}
use lib.Seq.{drop-cons}
use borrow.Author.Tests.{ltb-true, ltb-false}
use Rattle.std.specs.List.{position, prefix_len}
use Rattle.std.specs.Prelude.{Some, None, if◌then◌else◌}
use Rattle.model.specs.Lists.{further, find}
use Rattle.search.specs.Above.{above_of}

-- a place counted behind i elements; none stays none
abbrev pub behind : ℕ → ℕ → ℕ
behind i zero = zero
behind i (suc n) = i + suc n

behind-further : (i n : ℕ) → behind i (further n) ≡ behind (i + 1) n
behind-further i zero = refl
behind-further i (suc n) = omega arith

module _ {A : Type 0} (q : A → Bool) (l : List A) where
  pub find-begin : find q l ≡ behind 0 (find q (drop 0 l))
  find-begin = go (find q l)
    where
      go : (n : ℕ) → n ≡ behind 0 n
      go zero = refl
      go (suc n) = omega arith

  pub find-end : (i : ℕ) → length l ≤ i → behind i (find q (drop i l)) ≡ 0
  find-end i h = rw (drop_of_length-le l h)

  module _ (i : ℕ) (d : A) (h : i < length l) where
    -- the element at i fits
    pub find-here : q (get_or l i d) ≡ true → behind i (find q (drop i l)) ≡ i + 1
    find-here e = rw (drop-cons l i d h, e)

    -- it does not, and the search goes on
    pub find-next : q (get_or l i d) ≡ false → behind i (find q (drop i l)) ≡ behind (i + 1) (find q (drop (i + 1) l))
    find-next e = rw (drop-cons l i d h, e, add-one i) (rw (add-one i) at (behind-further i (find q (drop (suc i) l))))

-- how many stand before the first element of which the test holds
module _ {A : Type 0} (q : A → Bool) where
  abbrev before : List A → ℕ
  before xs = prefix_len (λ x. not (q x)) xs

  counted : (xs : List A) → (before xs < length xs → find q xs ≡ before xs + 1) × (length xs ≤ before xs → find q xs ≡ 0)
  counted [] = (λ h. absurd (omega arith), λ h. refl)
  counted (x ∷ xs) = go (q x) (counted xs)
    where
      go : (t : Bool) → (before xs < length xs → find q xs ≡ before xs + 1) × (length xs ≤ before xs → find q xs ≡ 0)
          → (cond (not t) (1 + before xs) 0 < suc (length xs) → (if t then 1 else further (find q xs)) ≡ cond (not t) (1 + before xs) 0 + 1)
          × (suc (length xs) ≤ cond (not t) (1 + before xs) 0 → (if t then 1 else further (find q xs)) ≡ 0)
      go true k = (λ h. refl, λ h. absurd (omega arith))
      go false k = (λ h. rw (k.0 (omega arith), add-one (before xs)) (omega arith), λ h. rw (k.1 (omega arith)))

  -- its position, by the place of the first
  pub position-above : (xs : List A) → position q xs ≡ above_of (find q xs)
  position-above xs = go (ltb (before xs) (length xs)) refl
    where
      go : (b : Bool) → ltb (before xs) (length xs) ≡ b → cond b (Some (before xs)) None ≡ above_of (find q xs)
      go true t = rw ((counted xs).0 (ltb-true _ _ t), add-one (before xs))
      go false t = rw ((counted xs).1 (ltb-false _ _ t))
