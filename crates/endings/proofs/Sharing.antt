-- What is left of a recording, and the records of a share before it.
use Prim.Native.Nat.{ℕ, zero, suc, ◌+◌, ◌-◌, ◌≤◌, ◌<◌}
use mathlib.Core.Path.{◌≡◌, refl, sym, ◌∙◌, ap}
use mathlib.Core.Bool.{true, false, not}
use mathlib.Core.List.{List, [], ◌∷◌, ◌++◌, append-nil, append_assoc}
use native.Mathlib.Nat.{add-zero}
use native.Mathlib.Omega.{arith}
use lib.Dec.{eqb, leb}
use lib.ListN.{length, get_or, take, drop, length-drop, length-append}
use lib.Seq.{length-take-le}
use borrow.Author.Tests.{leb-true}
use Rattle.std.specs.Prelude.{Option, Some, None, MatchOption, is_some}
use Rattle.model.specs.Lists.{sum_of}
use Rattle.model.proofs.Logic.{and_left, and_right, if-elim}
use Rattle.notes.specs.declared.Notes.{Notes}
use Rattle.notes.specs.Places.{place_if, Tells, noted_at}
use Rattle.notes.proofs.Noting.{place-few, tells-noted}
use Rattle.recording.specs.CallBytes.{restore_kind, first_image, first_whole}
use Rattle.recording.specs.OneCall.{call_length}
use Rattle.endings.specs.declared.Share.{Share}
use Rattle.endings.specs.Shares.{records_among, is_in, header_of, bytes_in, numbers_in, Shares}

-- ---- one record

-- whole or not, by its length
pub whole-some : (r : List ℕ) (long : Option ℕ)
    → MatchOption long (first_whole r ≡ false) (λ n. (first_whole r ≡ true) × (n ≡ 6 + first_image r)) → is_some long ≡ first_whole r
whole-some r None h = sym h
whole-some r (Some n) h = sym h.0

module _ (r : List ℕ) where
  -- the six bytes before an image are there
  pub header-fits : (share : Share) → is_in share r ≡ true → header_of share ≤ length r
  header-fits Share.Images e =
      let h = leb-true (6 + first_image r) (length r) (and_left (first_whole r) (eqb (get_or r 0 0) restore_kind) e) in omega arith
  header-fits Share.LeftOut e = omega arith
  header-fits Share.CutImage e = leb-true 6 (length r) (and_right (not (first_whole r)) (leb 6 (length r)) e)

  module _ (share : Share) where
    pub bytes-none : is_in share r ≡ false → 0 ≡ bytes_in share r
    unfolding bytes_in
    bytes-none e = rw e

    pub bytes-some : is_in share r ≡ true → {k : ℕ} → k ≡ header_of share → length r - k ≡ bytes_in share r
    unfolding bytes_in
    bytes-some e same = rw (e, same)

    pub bytes-few : bytes_in share r ≤ length r
    unfolding bytes_in
    bytes-few = if-elim (λ (k : ℕ). k ≤ length r) (is_in share r) (length r - header_of share) 0 (λ e. omega arith) (λ e. omega arith)

-- ---- the first record, and what is behind it

-- it has a byte, and no more than there are
pub call_fits : (l : List ℕ) → 0 < length l → (0 < call_length l) × (call_length l ≤ length l)
unfolding call_length
call_fits l h =
    if-elim (λ (k : ℕ). (0 < k) × (k ≤ length l)) (first_whole l) (6 + first_image l) (length l)
    (λ e. (omega arith, leb-true (6 + first_image l) (length l) e))
    (λ e. (h, omega arith))

no_length : (l : List ℕ) → length l ≡ 0 → l ≡ []
no_length [] e = refl
no_length (x ∷ l) e = absurd (omega arith)

records-none : (n : ℕ) (l : List ℕ) → l ≡ [] → records_among n l ≡ []
unfolding records_among
records-none zero l e = refl
records-none (suc n) l e = rw e

records-first : (n : ℕ) (l : List ℕ) → 0 < length l → records_among (suc n) l ≡ take (call_length l) l ∷ records_among n (drop (call_length l) l)
unfolding records_among
records-first n [] h = absurd (omega arith)
records-first n (b ∷ l) h = refl

-- where n records are enough, one fewer is enough for those behind the first
record First (n : ℕ) (l : List ℕ) : Type 0 where
  others : ℕ
  enough : length (drop (call_length l) l) ≤ others
  first : records_among n l ≡ take (call_length l) l ∷ records_among others (drop (call_length l) l)

first_of : (n : ℕ) (l : List ℕ) → 0 < length l → length l ≤ n → First n l
first_of zero l h k = absurd (omega arith)
first_of (suc n) l h k =
    let some = (call_fits l h).0 in
    let d = length-drop (call_length l) l in
    record { others = n; enough = omega arith; first = records-first n l h }

-- ---- in a recording

-- of the records of l, n and bytes are of those in the share before the i-th, and m is left from that one on
pub record Passed (share : Share) (l : List ℕ) (n : Notes) (bytes i : ℕ) (m : List ℕ) : Type 0 where
  pub number : i + length m ≤ length l + 1
  pub few : n.count < i
  pub sum : bytes + length m ≤ length l
  pub left : ℕ
  pub enough : length m ≤ left
  pub places : List ℕ
  pub tells : Tells places n
  pub numbers : numbers_in share 1 (records_among (length l) l) ≡ places ++ numbers_in share i (records_among left m)
  pub all : sum_of (bytes_in share) (records_among (length l) l) ≡ bytes + sum_of (bytes_in share) (records_among left m)

pub passed_start : (share : Share) (l : List ℕ) (n : Notes) → Tells [] n → Passed share l n 0 1 l
passed_start share l n t =
    let k = t.count in
    record {
      number = omega arith;
      few = omega arith;
      sum = omega arith;
      left = length l;
      enough = omega arith;
      places = [];
      tells = t;
      numbers = refl;
      all = omega arith;
    }

module _ {share : Share} {l : List ℕ} {n : Notes} {bytes i : ℕ} {m : List ℕ} (h : Passed share l n bytes i m) where
  -- nothing is left
  pub passed-end : length m ≡ 0 → Shares share (records_among (length l) l) (record { records = n; bytes = bytes })
  unfolding numbers_in
  passed-end over =
      let none = records-none h.left m (no_length m over) in
      record {
        numbers =
            rw (h.numbers ∙ ap (λ (rs : List (List ℕ)). h.places ++ numbers_in share i rs) none ∙ append-nil h.places) h.tells;
        bytes = sym (h.all ∙ ap (λ (rs : List (List ℕ)). bytes + sum_of (bytes_in share) rs) none ∙ add-zero bytes);
      }

  -- one record more
  module _ (some : 0 < length m) {k : ℕ} (long : k ≡ call_length m) where
    abbrev r : List ℕ
    r = take k m

    pub passed-more : {n' : Notes} → n' ≡ noted_at n (is_in share r) i → {b : ℕ} → b ≡ bytes_in share r
        → Passed share l n' (bytes + b) (i + 1) (drop k m)
    unfolding numbers_in
    passed-more more {b} same =
        let d = length-drop k m in
        let fits = call_fits m some in
        let f = first_of h.left m some h.enough in
        let first : records_among h.left m ≡ r ∷ records_among f.others (drop k m) = rw long f.first in
        let t = tells-noted (is_in share r) i n _ more h.places h.tells in
        let c = t.count in
        let c' = h.tells.count in
        let one = place-few (is_in share r) i in
        let a = length-append h.places (place_if (is_in share r) i) in
        let b-few = bytes-few r share in
        let long-r : length r ≡ k = length-take-le k m (omega arith) in
        let e : i + 1 ≡ suc i = omega arith in
        let sums : sum_of (bytes_in share) (records_among h.left m) ≡ bytes_in share r + sum_of (bytes_in share) (records_among f.others (drop k m)) =
        ap (sum_of (bytes_in share)) first in
        record {
          number = omega (arith, h.number);
          few = omega (arith, h.few);
          sum = omega (arith, h.sum);
          left = f.others;
          enough = rw long f.enough;
          places = h.places ++ place_if (is_in share r) i;
          tells = t;
          numbers =
              h.numbers
              ∙ ap (λ (rs : List (List ℕ)). h.places ++ numbers_in share i rs) first
              ∙ sym (append_assoc h.places (place_if (is_in share r) i) (numbers_in share (suc i) (records_among f.others (drop k m))))
              ∙ rw e;
          all = omega (arith, h.all, sums);
        }
