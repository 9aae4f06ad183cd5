-- The refusal of a load by what its table's and its seed's are, and the load by its refusal.
use Prim.Native.Nat.{ℕ, zero, suc}
use mathlib.Core.Path.{◌≡◌, refl, sym, ◌∙◌, ap}
use mathlib.Core.List.{List, [], ◌++◌}
use native.Mathlib.Omega.{arith}
use lib.Dec.{eqb}
use lib.ListN.{drop}
use borrow.Author.Tests.{eq-eqb, ne_eqb}
use Rattle.model.specs.Written.{written}
use Rattle.model.specs.Refusals.{refusal}
use Rattle.model.specs.Table.{size_of, table_checks, table_refusal}
use Rattle.model.proofs.RefusalLaws.{refusal-applies, refusal-passes, refusal-append-refused, refusal-append-passed}
use Rattle.model.proofs.WrittenLaws.{written_start}
use Rattle.loads.specs.Generator.{records_from}
use Rattle.loads.specs.Loads.{seed_checks, load_refusal, loaded, refused_load, fitting, filled, settle_load, load_of}
use Rattle.loads.proofs.GeneratorLaws.{records-length}

-- ---- its refusal

abbrev seed_refusal : ℕ → ℕ
seed_refusal seed = refusal (seed_checks seed)

module _ (seed : ℕ) where
  pub seed-refused : seed ≡ 0 → 32 ≡ seed_refusal seed
  seed-refused e = sym (refusal-applies 32 (eqb seed 0) [] (eq-eqb seed 0 e))

  pub seed-taken : (seed ≡ 0 → ⊥) → 0 ≡ seed_refusal seed
  unfolding refusal
  seed-taken n = sym (refusal-passes 32 (eqb seed 0) [] (ne_eqb seed 0 n))

  seed-known : seed_refusal seed ≡ 0 → seed ≡ 0 → ⊥
  seed-known e z = let r = seed-refused z in omega arith

module _ (tb : List ℕ) (seed : ℕ) where
  pub table-refused : (k : ℕ) → k ≡ table_refusal tb → (k ≡ 0 → ⊥) → k ≡ load_refusal tb seed
  unfolding table_refusal
  table-refused zero e n = absurd (n refl)
  table-refused (suc k) e n = sym (refusal-append-refused k (table_checks tb) (seed_checks seed) (sym e))

  pub table_taken : table_refusal tb ≡ 0 → seed_refusal seed ≡ load_refusal tb seed
  unfolding table_refusal
  table_taken e = sym (refusal-append-passed (table_checks tb) (seed_checks seed) (omega arith, (omega arith, tt)) e)

  -- of a load that is not refused
  pub record Taken : Type 0 where
    pub table : table_refusal tb ≡ 0
    pub some : seed ≡ 0 → ⊥

  pub load-taken : load_refusal tb seed ≡ 0 → Taken
  load-taken e = go (table_refusal tb) refl
    where
      go : (k : ℕ) → table_refusal tb ≡ k → Taken
      go zero f = record { table = f; some = seed-known seed (table_taken f ∙ e) }
      go (suc k) f = let r = table-refused (suc k) (sym f) (λ z. omega arith) in absurd (omega arith)

  pub taken-load : Taken → 0 ≡ load_refusal tb seed
  taken-load t = seed-taken seed t.some ∙ table_taken t.table

-- ---- what it gives

module _ (tb : List ℕ) (seed : ℕ) (d : List ℕ) where
  settled : {k : ℕ} → k ≡ load_refusal tb seed → load_of tb seed d ≡ settle_load k (size_of tb) seed d
  unfolding load_of
  settled e = ap (λ (r : ℕ). settle_load r (size_of tb) seed d) (sym e)

  pub load-refused : (k : ℕ) → k ≡ load_refusal tb seed → (k ≡ 0 → ⊥) → load_of tb seed d ≡ loaded (refused_load k) d
  load-refused zero e n = absurd (n refl)
  load-refused (suc k) e n = settled e

  pub load-done : Taken tb seed → load_of tb seed d ≡ settle_load 0 (size_of tb) seed d
  load-done t = settled (taken-load tb seed t)

-- the records written at the start of the buffer
pub filled-written : (n seed : ℕ) (d : List ℕ) → written d 0 (records_from n seed (fitting d)) ≡ filled n seed d
filled-written n seed d =
    written_start d (records_from n seed (fitting d))
    ∙ ap (λ (k : ℕ). records_from n seed (fitting d) ++ drop k d) (records-length n seed (fitting d))
