-- The clauses of a load, by its definition: it can be made in two parts, and none of its records draws 3, 4 or 9.
use Prim.Native.Nat.{ℕ, zero, suc, ◌+◌, ◌-◌, ◌*◌, ◌<◌}
use mathlib.Core.Path.{◌≡◌, refl, sym, ◌∙◌, ap, ap₂}
use mathlib.Core.List.{List, ◌++◌, append_assoc}
use native.Mathlib.Omega.{arith}
use lib.ListN.{drop}
use lib.Seq.{take_at, drop_at}
use Rattle.model.specs.Table.{size_of}
use Rattle.model.proofs.Tables.{good-shaped}
use Rattle.loads.specs.Generator.{next, record_from, records_from, state_after}
use Rattle.loads.specs.Loads.{load_refusal, Loaded, fitting, settle_load, load_of}
use Rattle.loads.specs.Promises.{made, Joins, GoesOn, NoneDraws}
use Rattle.loads.proofs.GeneratorLaws.{records-append, state-append, records-length, after-state}
use Rattle.loads.proofs.LoadLaws.{Taken, load-taken, load-done}
use Rattle.loads.proofs.Draws.{record-none}

-- ---- in two parts

made-records : (n seed : ℕ) (d : List ℕ) → made (settle_load 0 n seed d) ≡ records_from n seed (fitting d)
made-records n seed d =
    take_at (records_from n seed (fitting d)) (drop (6 * fitting d) d) (6 * fitting d) (records-length n seed (fitting d))

module _ (n seed : ℕ) (d₁ d₂ d : List ℕ) (fit : fitting d ≡ fitting d₁ + fitting d₂) where
  abbrev last : ℕ
  last = state_after seed (fitting d₁)

  joins : Joins (settle_load 0 n seed d₁) (settle_load 0 n last d₂) (settle_load 0 n seed d)
  joins =
      record {
        second_accepted = refl;
        whole_accepted = refl;
        count = fit;
        state = ap (state_after seed) fit ∙ state-append seed (fitting d₁) (fitting d₂);
        records =
            made-records n seed d ∙ ap (records_from n seed) fit ∙ records-append n seed (fitting d₁) (fitting d₂)
            ∙ sym (ap₂ (λ (x y : List ℕ). x ++ y) (made-records n seed d₁) (made-records n last d₂));
      }

-- ---- what the records draw

-- the record behind i others
record-at : (n s a i : ℕ) (rest : List ℕ) → i < a
    → drop (6 * i) (records_from n s a ++ rest)
    ≡ record_from n (state_after s i) ++ (records_from n (next (state_after s i)) (a - i - 1) ++ rest)
unfolding records_from
record-at n s a i rest h =
    let j = a - i - 1 in
    let e : a ≡ i + suc j = omega arith in
    ap (λ (l : List ℕ). drop (6 * i) (l ++ rest)) (ap (records_from n s) e ∙ records-append n s i (suc j))
    ∙ ap (drop (6 * i)) (append_assoc (records_from n s i) (records_from n (state_after s i) (suc j)) rest)
    ∙ drop_at (records_from n s i) (records_from n (state_after s i) (suc j) ++ rest) (6 * i) (records-length n s i)
    ∙ append_assoc (record_from n (state_after s i)) (records_from n (next (state_after s i)) j) rest

-- ---- the contract

module _ (tb : List ℕ) (seed : ℕ) (d : List ℕ) (small : seed < 0x100000000) where
  goes_on : Taken tb seed → GoesOn tb seed (settle_load 0 (size_of tb) seed d)
  goes_on t e second whole fit =
      let ne = t.some in
      let s = after-state seed (fitting d) (omega arith, small) in
      let later : Taken tb (state_after seed (fitting d)) = record { table = t.table; some = λ z. omega arith } in
      rw (load-done tb seed whole t, load-done tb (state_after seed (fitting d)) second later)
      (joins (size_of tb) seed d second whole fit)

  draws : Taken tb seed → NoneDraws tb (settle_load 0 (size_of tb) seed d)
  draws t i h c =
      rw (record-at (size_of tb) seed (fitting d) i (drop (6 * fitting d) d) h)
      (record-none tb c (state_after seed i) _ (good-shaped tb t.table).some)

  -- of what a load gives, refused or not
  pub load-clauses : {l : Loaded} → l ≡ load_of tb seed d → (l ≡ load_of tb seed d) × (GoesOn tb seed l × NoneDraws tb l)
  unfolding load_of
  load-clauses e = (e, rw e (go (load_refusal tb seed) refl))
    where
      go : (k : ℕ) → load_refusal tb seed ≡ k
          → GoesOn tb seed (settle_load k (size_of tb) seed d) × NoneDraws tb (settle_load k (size_of tb) seed d)
      go zero f = let t = load-taken tb seed f in (goes_on t, draws t)
      go (suc k) f = (λ z. absurd (omega arith), λ i h. absurd (omega arith))
