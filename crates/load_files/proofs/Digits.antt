-- A text of digits read one by one: what the rest of it makes of the number so far.
use Prim.Native.Nat.{ℕ, ◌+◌, ◌-◌, ◌*◌, ◌≤◌, ◌<◌}
use mathlib.Core.Path.{◌≡◌, refl, ap}
use mathlib.Core.List.{List, [], ◌∷◌}
use native.Mathlib.Numerals.{add-one}
use native.Mathlib.Omega.{arith}
use lib.ListN.{length, get_or, drop, drop_of_length-le}
use lib.Seq.{drop-cons}
use borrow.Author.Tests.{lt-ltb, le-ltb}
use Rattle.std.specs.Prelude.{Some, None}
use Rattle.load_files.specs.Numbers.{most_asked, number_from, number_in}

pub number-begins : (text : List ℕ) → (length text ≡ 0 → ⊥) → number_in text ≡ number_from 0 text
unfolding number_in
number-begins [] n = absurd (n refl)
number-begins (x ∷ xs) n = refl

pub number-none : (text : List ℕ) → length text ≡ 0 → None ≡ number_in text
unfolding number_in
number-none [] e = refl
number-none (x ∷ xs) e = absurd (omega arith)

module _ (text : List ℕ) (v i : ℕ) where
  pub number-ends : length text ≤ i → number_from v (drop i text) ≡ Some v
  unfolding number_from
  number-ends h = ap (number_from v) (drop_of_length-le text h)

  -- the digit at a place
  abbrev x : ℕ
  x = get_or text i 0

  abbrev pub read : ℕ
  read = 10 * v + (x - 48)

  module _ (some : i < length text) where
    pub digit-below : x < 48 → number_from v (drop i text) ≡ None
    unfolding number_from
    digit-below h = rw (drop-cons text i 0 some, lt-ltb x 48 h)

    pub digit-above : 48 ≤ x → 57 < x → number_from v (drop i text) ≡ None
    unfolding number_from
    digit-above l h = rw (drop-cons text i 0 some, le-ltb x 48 l, lt-ltb 57 x h)

    pub digit-most : 48 ≤ x → x ≤ 57 → most_asked < read → number_from v (drop i text) ≡ None
    unfolding number_from
    digit-most l h m = rw (drop-cons text i 0 some, le-ltb x 48 l, le-ltb 57 x h, lt-ltb most_asked read m)

    pub digit-read : 48 ≤ x → x ≤ 57 → read ≤ most_asked → number_from v (drop i text) ≡ number_from read (drop (i + 1) text)
    unfolding number_from
    digit-read l h m = rw (drop-cons text i 0 some, le-ltb x 48 l, le-ltb 57 x h, le-ltb most_asked read m, add-one i)
