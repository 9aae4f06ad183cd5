-- The place that is reached in a list of calls, and the notes of the records before it that are no call.
use Prim.Native.Nat.{ℕ, zero, suc, ◌+◌, ◌-◌, ◌*◌, ◌≤◌, ◌<◌}
use mathlib.Core.Path.{◌≡◌, refl, sym, ◌∙◌, ap}
use mathlib.Core.Bool.{Bool, true, false}
use mathlib.Core.List.{List, [], ◌++◌, append_assoc}
use native.Mathlib.Nat.{add-zero}
use native.Mathlib.Omega.{arith}
use lib.Dec.{ltb}
use lib.ListN.{length, get_or, drop, length-drop, length-append}
use lib.Seq.{drop-drop, get_or-drop}
use borrow.Author.Tests.{le-leb, lt-leb, leb-true, leb-false, lt-ltb, le-ltb}
use Rattle.std.specs.Prelude.{if◌then◌else◌}
use Rattle.notes.specs.declared.Notes.{Notes}
use Rattle.notes.specs.Places.{place_if, Tells, noted_at}
use Rattle.notes.proofs.Noting.{place-few, tells-noted}
use Rattle.recording.specs.CallBytes.{first_image, first_whole}
use Rattle.recording.specs.Ignored.{unknown_kind, ignored_among, ignored_from}

-- ---- the first record

-- what is left is cut, or nothing
cut-among : (n p : ℕ) (l : List ℕ) → length l ≤ n → length l < 6 + first_image l → ignored_among n p l ≡ place_if (ltb 0 (length l)) p
unfolding ignored_among
cut-among zero p l k h = rw (le-ltb 0 (length l) k)
cut-among (suc n) p l k h = rw (lt-leb (6 + first_image l) (length l) h)

-- as many records as there are bytes are all
all_among : (n m p : ℕ) (l : List ℕ) → length l ≤ n → length l ≤ m → ignored_among n p l ≡ ignored_among m p l
unfolding ignored_among
all_among zero m p l h k = cut-among zero p l h (omega arith) ∙ sym (cut-among m p l k (omega arith))
all_among (suc n) zero p l h k = cut-among (suc n) p l h (omega arith) ∙ sym (cut-among zero p l k (omega arith))
all_among (suc n) (suc m) p l h k =
    let b = length-drop (6 + first_image l) l in
    ap (λ (ps : List ℕ). if first_whole l then place_if (unknown_kind (get_or l 0 0)) p ++ ps else place_if (ltb 0 (length l)) p)
    (all_among n m (p + (6 + first_image l)) (drop (6 + first_image l) l) (omega arith) (omega arith))

module _ (p : ℕ) (l : List ℕ) where
  ignored-cut : length l < 6 + first_image l → ignored_from p l ≡ place_if (ltb 0 (length l)) p
  ignored-cut h = cut-among (length l) p l (omega arith) h

  -- a whole record takes i bytes
  ignored-whole : first_whole l ≡ true → {i : ℕ} → i ≡ 6 + first_image l
      → ignored_from p l ≡ place_if (unknown_kind (get_or l 0 0)) p ++ ignored_from (p + i) (drop i l)
  unfolding ignored_among
  ignored-whole e is =
      let h = leb-true (6 + first_image l) (length l) e in
      rw is (all_among (length l) (suc (length l)) p l (omega arith) (omega arith)
      ∙ rw (le-leb (6 + first_image l) (length l) h)
      (ap (λ (ps : List ℕ). place_if (unknown_kind (get_or l 0 0)) p ++ ps)
      (all_among (length l) (length (drop (6 + first_image l) l)) (p + (6 + first_image l)) (drop (6 + first_image l) l)
      (omega (arith, length-drop (6 + first_image l) l)) (omega arith))))

-- ---- at a place

-- of the list l from a place on, the notes n are of the records before p that are no call
pub record Noted (l : List ℕ) (from : ℕ) (n : Notes) (p : ℕ) : Type 0 where
  pub inside : p ≤ length l
  pub few : 6 * n.count ≤ p
  pub places : List ℕ
  pub tells : Tells places n
  pub rest : ignored_from from (drop from l) ≡ places ++ ignored_from p (drop p l)

pub noted-start : (l : List ℕ) (from : ℕ) (n : Notes) → from ≤ length l → Tells [] n → Noted l from n from
noted-start l from n h t =
    let k = t.count in record { inside = h; few = omega arith; places = []; tells = t; rest = refl }

-- something is left behind a place that is not the end
left-test : (long p left : ℕ) → p ≤ long → left ≡ long - p → ltb 0 left ≡ ltb p long
left-test long p zero h e = sym (le-ltb p long (omega arith))
left-test long p (suc left) h e = lt-ltb 0 (suc left) (omega arith) ∙ sym (lt-ltb p long (omega arith))

module _ {l : List ℕ} {from : ℕ} {n : Notes} {p : ℕ} (h : Noted l from n p) where
  -- a whole record more, which takes i bytes with its image
  pub noted_more : first_whole (drop p l) ≡ true → {i : ℕ} → i ≡ 6 + first_image (drop p l)
      → {n' : Notes} → n' ≡ noted_at n (unknown_kind (get_or l p 0)) p → Noted l from n' (p + i)
  noted_more whole {i} is {n'} more =
      let fits = leb-true (6 + first_image (drop p l)) (length (drop p l)) whole in
      let d = length-drop p l in
      let t = tells-noted (unknown_kind (get_or l p 0)) p n n' more h.places h.tells in
      let k = t.count in
      let k' = h.tells.count in
      let f = h.few in
      let one = place-few (unknown_kind (get_or l p 0)) p in
      let a = length-append h.places (place_if (unknown_kind (get_or l p 0)) p) in
      record {
        inside = omega (arith, h.inside);
        few = omega arith;
        places = h.places ++ place_if (unknown_kind (get_or l p 0)) p;
        tells = t;
        rest =
            h.rest
            ∙ ap (λ (ps : List ℕ). h.places ++ ps)
            (ignored-whole p (drop p l) whole is ∙ rw (get_or-drop p l 0 0, add-zero p, drop-drop i p l))
            ∙ sym (append_assoc h.places (place_if (unknown_kind (get_or l p 0)) p) (ignored_from (p + i) (drop (p + i) l)));
      }

  -- what is left is cut, or nothing
  pub noted-end : first_whole (drop p l) ≡ false → {n' : Notes} → n' ≡ noted_at n (ltb p (length l)) p → Tells (ignored_from from (drop from l)) n'
  noted-end cut {n'} more =
      let met = ltb p (length l) in
      let d = length-drop p l in
      let e : ignored_from p (drop p l) ≡ place_if met p =
      ignored-cut p (drop p l) (leb-false (6 + first_image (drop p l)) (length (drop p l)) cut)
      ∙ ap (λ (b : Bool). place_if b p) (left-test (length l) p (length (drop p l)) h.inside (omega arith)) in
      rw (h.rest, e) (tells-noted met p n n' more h.places h.tells)
