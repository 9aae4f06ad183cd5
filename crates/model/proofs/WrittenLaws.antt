-- Bytes written one after the other: a byte and then the rest, some bytes and then the rest; what stands behind them. The
-- place behind the bytes is any number with the equation that it is.
use Prim.Native.Nat.{ℕ, suc, ◌+◌, ◌≤◌}
use mathlib.Core.Path.{◌≡◌, refl, sym, ◌∙◌, ap}
use mathlib.Core.List.{List, [], ◌∷◌, ◌++◌, append-nil, append_assoc}
use native.Mathlib.Nat.{zero-add, add-zero}
use native.Mathlib.Numerals.{add-one}
use native.Mathlib.Omega.{arith}
use lib.ListN.{length, take, drop, set, length-append, length-drop, take-append-drop}
use lib.Seq.{length-take-le, take_at, drop_at, drop-drop, take-suc-set, drop-set-lt, append_snoc, sets, sets-eq}
use Rattle.model.specs.Written.{written}

-- at the start of the buffer
pub written_start : (d bytes : List ℕ) → written d 0 bytes ≡ bytes ++ drop (length bytes) d
unfolding written
written_start d bytes = ap (λ (k : ℕ). bytes ++ drop k d) (zero-add (length bytes))

module _ (d : List ℕ) (at : ℕ) where
  pub written-nil : written d at [] ≡ d
  unfolding written
  written-nil = rw (append-nil (take at d), add-zero at) (take-append-drop at d)

  -- one byte, then others behind it
  pub written-cons : (x : ℕ) (b : List ℕ) {next : ℕ} → next ≡ at + 1 → next ≤ length d
      → written (set d at x) next b ≡ written d at (x ∷ b)
  unfolding written
  written-cons x b {next} behind fits =
      let e : next + length b ≡ at + suc (length b) = omega arith in
      let t : take next (set d at x) ≡ take at d ++ (x ∷ []) = rw (behind, add-one at) (take-suc-set d at x (omega arith)) in
      let r : drop (next + length b) (set d at x) ≡ drop (next + length b) d = drop-set-lt (next + length b) d at x (omega arith) in
      rw (t, r, e, append_snoc)

  -- stores one after the other: on a list that is written out, `sets` computes to them
  pub written-sets : (a : List ℕ) → at + length a ≤ length d → sets d at a ≡ written d at a
  unfolding written
  written-sets a h = sets-eq a d at h

  module _ (a : List ℕ) {next : ℕ} (behind : next ≡ at + length a) (fits : next ≤ length d) where
    head : length (take at d ++ a) ≡ next
    head = length-append (take at d) a ∙ rw (length-take-le at d (omega arith)) (sym behind)

    -- with the bytes, and behind them
    pub written-take : take next (written d at a) ≡ take at d ++ a
    unfolding written
    written-take = rw (← behind) (take_at (take at d ++ a) (drop next d) next head)

    pub written-drop : drop next (written d at a) ≡ drop next d
    unfolding written
    written-drop = rw (← behind) (drop_at (take at d ++ a) (drop next d) next head)

    pub written-length : length (written d at a) ≡ length d
    unfolding written
    written-length = rw (← behind, length-append (take at d ++ a) (drop next d), length-drop next d, head) (omega arith)

    -- some bytes, then others behind them
    pub written-append : (b : List ℕ) → written (written d at a) next b ≡ written d at (a ++ b)
    unfolding written
    written-append b =
        let t = written-take in
        let r : drop (next + length b) (written d at a) ≡ drop (next + length b) d =
        sym (drop-drop (length b) next (written d at a)) ∙ ap (drop (length b)) written-drop ∙ drop-drop (length b) next d in
        let e : next + length b ≡ at + length (a ++ b) = omega (arith, length-append a b) in
        rw (t, r, e, append_assoc (take at d) a b)

-- what a writer ensures, with the buffer before and after it: the place behind its bytes, and the bytes
pub record Wrote (d : List ℕ) (at : ℕ) (bytes : List ℕ) (d' : List ℕ) (next : ℕ) : Type 0 where
  pub place : next ≡ at + length bytes
  pub text : d' ≡ written d at bytes

-- from a writer's three clauses: the place, the bytes, and that it needs no more than its room
abbrev pub wrote : (room : ℕ) {d d' bytes : List ℕ} {at next : ℕ}
    → (next ≡ at + length bytes) × ((d' ≡ written d at bytes) × (next ≤ at + room)) → Wrote d at bytes d' next
wrote room e = record { place = e.0; text = e.1.0 }

-- nothing written yet
pub wrote-nil : (d : List ℕ) (at : ℕ) → Wrote d at [] d at
wrote-nil d at = record { place = sym (add-zero at); text = sym (written-nil d at) }

-- one byte stored
pub wrote_one : (d : List ℕ) (at x : ℕ) → at + 1 ≤ length d → Wrote d at (x ∷ []) (set d at x) (at + 1)
wrote_one d at x fits = record { place = refl; text = written-sets d at (x ∷ []) fits }

-- the buffer keeps its length
pub wrote-length : {d d' bytes : List ℕ} {at next : ℕ} → Wrote d at bytes d' next → next ≤ length d → length d' ≡ length d
wrote-length {d} {bytes} {at} w fits = ap length w.text ∙ written-length d at bytes w.place fits

-- a writer behind one byte
pub wrote-cons : {d d' bytes : List ℕ} {at next n x : ℕ}
    → next ≡ at + 1 → next ≤ length d → Wrote (set d at x) next bytes d' n → Wrote d at (x ∷ bytes) d' n
wrote-cons {d} {d'} {bytes} {at} {next} {n} {x} behind fits w =
    record { place = let p = w.place in omega arith; text = w.text ∙ written-cons d at x bytes behind fits }

-- one writer behind another
pub wrote-append : {d d' d'' : List ℕ} {at m n : ℕ} {a b : List ℕ}
    → Wrote d at a d' m → m ≤ length d → Wrote d' m b d'' n → Wrote d at (a ++ b) d'' n
wrote-append {d} {at} {m} {a} {b} v fits w =
    record {
      place = let p = v.place in let q = w.place in omega (arith, length-append a b);
      text = w.text ∙ rw v.text (written-append d at a v.place fits b);
    }
