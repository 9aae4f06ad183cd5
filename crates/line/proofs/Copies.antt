-- All of a list from a place on, as a part of a slice; and what is written at its start is written at that place.
use Prim.Native.Nat.{ℕ, ◌+◌, ◌-◌}
use mathlib.Core.Path.{◌≡◌, sym}
use mathlib.Core.List.{List, [], ◌++◌, append-nil, append_assoc}
use native.Mathlib.Omega.{arith}
use lib.ListN.{length, take, drop, length-drop, drop_of_length-le}
use lib.Seq.{take_all, take-length, drop-drop}
use borrow.Rule.Slice.PartMut.{mid_of, post_of, put_mid}
use Rattle.model.specs.Written.{written}

module _ {A : Type 0} where
  pub part-rest : (n : ℕ) (l : List A) → mid_of n (length l - n) l ≡ drop n l
  part-rest n l = take_all (length l - n) (drop n l) (omega (arith, length-drop n l))

  pub part-beyond : (n : ℕ) (l : List A) → post_of n (length l - n) l ≡ []
  part-beyond n l = drop_of_length-le (drop n l) {i = length l - n} (omega (arith, length-drop n l))

module _ (out text part : List ℕ) (at : ℕ) where
  -- a text at the start of what lies behind a place stands at that place
  placed : part ≡ text ++ drop (length text) (mid_of at (length out - at) out) → put_mid at (length out - at) out part ≡ written out at text
  unfolding written
  placed f =
      rw (f, part-beyond at out, append-nil, part-rest at out, drop-drop (length text) at out)
      (sym (append_assoc (take at out) text (drop (at + length text) out)))

  -- it was copied there
  pub copied : (n : ℕ) → n ≡ length text → part ≡ take n text ++ drop n (mid_of at (length out - at) out)
      → put_mid at (length out - at) out part ≡ written out at text
  copied n e f = placed (rw (f, e, take-length text))

  -- a text that fills the part behind a place
  pub copied-whole : part ≡ text → put_mid at (at + length text - at) out part ≡ written out at text
  unfolding written
  copied-whole f = let k : at + length text - at ≡ length text = omega arith in rw (f, k, drop-drop (length text) at out) (sym (append_assoc (take at out) text (drop (at + length text) out)))
