-- The records of kind 6 of a block: up to a place, and how many there can be; and those of two lists of records.
use Prim.Native.Nat.{ℕ, suc, ◌+◌, ◌≤◌, ◌<◌, zero-le}
use mathlib.Core.Path.{◌≡◌, refl, sym, ◌∙◌, ap}
use mathlib.Core.Bool.{Bool, true, false}
use mathlib.Core.List.{List, [], ◌∷◌, ◌++◌, append-nil, append_assoc}
use native.Mathlib.Nat.{add-zero}
use native.Mathlib.Omega.{arith}
use lib.Dec.{eqb}
use lib.ListN.{length, get_or, drop, length-drop, length-append, drop_of_length-le}
use lib.Seq.{drop-drop, get_or-drop}
use Rattle.model.specs.Player.{Record, records_in}
use Rattle.notes.specs.declared.Notes.{Notes}
use Rattle.notes.specs.Places.{place_if, Tells, noted_at}
use Rattle.notes.proofs.Noting.{place-few, tells-noted}
use Rattle.player_files.specs.Restores.{restores_from, behind}

-- ---- one record

-- cut or whole, the first record has its kind from the first byte, and six bytes on are the others
restores-step : (i : ℕ) (l : List ℕ) → 1 ≤ length l
    → restores_from i (records_in l) ≡ place_if (eqb (get_or l 0 0) 6) i ++ restores_from (suc i) (records_in (drop 6 l))
unfolding records_in restores_from
restores-step i [] h = absurd (omega arith)
restores-step i (k ∷ []) h = refl
restores-step i (k ∷ b ∷ []) h = refl
restores-step i (k ∷ b ∷ w₃ ∷ []) h = refl
restores-step i (k ∷ b ∷ w₃ ∷ w₂ ∷ []) h = refl
restores-step i (k ∷ b ∷ w₃ ∷ w₂ ∷ w₁ ∷ []) h = refl
restores-step i (k ∷ b ∷ w₃ ∷ w₂ ∷ w₁ ∷ w₀ ∷ rest) h = refl

restores-none : (i : ℕ) (l : List ℕ) → l ≡ [] → restores_from i (records_in l) ≡ []
unfolding records_in restores_from
restores-none i l e = rw e

-- ---- at a place

-- of the block l, the notes n are of the records before the i-th, which stands at p
pub record Met (l : List ℕ) (n : Notes) (i p : ℕ) : Type 0 where
  pub inside : p ≤ length l
  pub number : i ≤ p + 1
  pub few : n.count < i
  pub places : List ℕ
  pub tells : Tells places n
  pub rest : restores_from 1 (records_in l) ≡ places ++ restores_from i (records_in (drop p l))

pub met_start : (l : List ℕ) (n : Notes) → Tells [] n → Met l n 1 0
met_start l n t = let k = t.count in record { inside = omega arith; number = omega arith; few = omega arith; places = []; tells = t; rest = refl }

module _ {l : List ℕ} {n : Notes} {i p : ℕ} (h : Met l n i p) where
  -- nothing is left
  pub met-end : length l ≤ p → Tells (restores_from 1 (records_in l)) n
  met-end over =
      rw (h.rest ∙ ap (λ (ps : List ℕ). h.places ++ ps) (restores-none i (drop p l) (drop_of_length-le l over)) ∙ append-nil h.places)
      h.tells

  module _ (some : p < length l) {n' : Notes} (more : n' ≡ noted_at n (eqb (get_or l p 0) 6) i) where
    -- with the record at p
    with-one : restores_from 1 (records_in l) ≡ (h.places ++ place_if (eqb (get_or l p 0) 6) i) ++ restores_from (suc i) (records_in (drop (p + 6) l))
    with-one =
        h.rest
        ∙ ap (λ (ps : List ℕ). h.places ++ ps)
        (restores-step i (drop p l) (omega (arith, length-drop p l)) ∙ rw (get_or-drop p l 0 0, add-zero p, drop-drop 6 p l))
        ∙ sym (append_assoc h.places (place_if (eqb (get_or l p 0) 6) i) (restores_from (suc i) (records_in (drop (p + 6) l))))

    pub met-last : length l ≤ p + 6 → Tells (restores_from 1 (records_in l)) n'
    met-last over =
        rw (with-one ∙ ap (λ (ps : List ℕ). (h.places ++ place_if (eqb (get_or l p 0) 6) i) ++ ps)
        (restores-none (suc i) (drop (p + 6) l) (drop_of_length-le l over)) ∙ append-nil (h.places ++ place_if (eqb (get_or l p 0) 6) i))
        (tells-noted (eqb (get_or l p 0) 6) i n n' more h.places h.tells)

    pub met-more : p + 6 ≤ length l → Met l n' (i + 1) (p + 6)
    met-more six =
        let t = tells-noted (eqb (get_or l p 0) 6) i n n' more h.places h.tells in
        let k = t.count in
        let k' = h.tells.count in
        let f = h.few in
        let m = h.number in
        let one = place-few (eqb (get_or l p 0) 6) i in
        let a = length-append h.places (place_if (eqb (get_or l p 0) 6) i) in
        let e : i + 1 ≡ suc i = omega arith in
        record {
          inside = six;
          number = omega arith;
          few = omega arith;
          places = h.places ++ place_if (eqb (get_or l p 0) 6) i;
          tells = t;
          rest = rw e with-one;
        }

-- ---- how many

-- not more than there are records, and none behind them
restores-few : (i : ℕ) (rs : List Record) → length (restores_from i rs) ≤ length rs
unfolding restores_from
restores-few i [] = zero-le
restores-few i (r ∷ rs) =
    let k = restores-few (suc i) rs in
    let one = place-few (eqb r.kind 6) i in
    omega (arith, length-append (place_if (eqb r.kind 6) i) (restores_from (suc i) rs))

first-few : (b : Bool) (i n : ℕ) (ps : List ℕ) → i ≤ n → get_or ps 0 0 ≤ n → get_or (place_if b i ++ ps) 0 0 ≤ n
first-few true i n ps h k = h
first-few false i n ps h k = k

restores-first : (i : ℕ) (rs : List Record) → get_or (restores_from (suc i) rs) 0 0 ≤ i + length rs
unfolding restores_from
restores-first i [] = zero-le
restores-first i (r ∷ rs) =
    let k = restores-first (suc i) rs in
    first-few (eqb r.kind 6) (suc i) (i + length (r ∷ rs)) (restores_from (suc (suc i)) rs) (omega arith) (omega arith)

pub met-few : (rs : List Record) {n : Notes} {m : ℕ} → Tells (restores_from 1 rs) n → length rs ≤ m → (n.count ≤ m) × (n.first ≤ m)
met-few rs t h =
    let k = t.count in
    let f = t.first in
    let few = restores-few 1 rs in
    let first = restores-first 0 rs in
    (omega arith, omega arith)

-- ---- of two lists of records

module _ (before : ℕ) where
  behind-length : (qs : List ℕ) → length (behind before qs) ≡ length qs
  unfolding behind
  behind-length [] = refl
  behind-length (q ∷ qs) = ap suc (behind-length qs)

  pub joined-none : {n t : Notes} → t.count ≡ 0 → (ps qs : List ℕ) → Tells ps n → Tells qs t → Tells (ps ++ behind before qs) n
  unfolding behind
  joined-none z ps [] h k = rw (append-nil ps) h
  joined-none z ps (q ∷ qs) h k = let e = k.count in absurd (omega arith)

  pub joined-first : {n t : Notes} → n.count ≡ 0 → (t.count ≡ 0 → ⊥) → (ps qs : List ℕ) → Tells ps n → Tells qs t
      → Tells (ps ++ behind before qs) (record { count = t.count; first = before + t.first })
  unfolding behind
  joined-first z w [] [] h k = absurd (w k.count)
  joined-first z w [] (q ∷ qs) h k =
      record { count = k.count ∙ sym (behind-length (q ∷ qs)); first = ap (λ (x : ℕ). before + x) k.first }
  joined-first z w (p ∷ ps) qs h k = let e = h.count in absurd (omega arith)

  pub joined-both : {n t : Notes} → (n.count ≡ 0 → ⊥) → (ps qs : List ℕ) → Tells ps n → Tells qs t
      → Tells (ps ++ behind before qs) (record { count = n.count + t.count; first = n.first })
  joined-both z [] qs h k = absurd (z h.count)
  joined-both z (p ∷ ps) qs h k =
      let e = h.count in
      let f = k.count in
      let b = behind-length qs in
      record { count = omega (arith, length-append ps (behind before qs)); first = h.first }
