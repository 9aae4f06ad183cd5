-- A load whose buffer holds so many whole records and no byte beyond them.
use Prim.Native.Nat.{ℕ, ◌*◌, ◌<◌}
use mathlib.Core.Path.{◌≡◌, sym, ◌∙◌, ap}
use mathlib.Core.List.{List, ◌++◌, append_assoc}
use native.Mathlib.Omega.{arith}
use lib.ListN.{length, drop}
use lib.Seq.{take_at}
use Rattle.model.specs.Table.{size_of}
use Rattle.loads.specs.declared.LoadReply.{LoadReply}
use Rattle.loads.specs.Generator.{records_from, state_after}
use Rattle.loads.specs.Loads.{load_refusal, Loaded, loaded, fitting, settle_load, load_of}
use Rattle.loads.proofs.GeneratorLaws.{records-length, after-state}
use Rattle.loads.proofs.LoadLaws.{Taken, load-taken, taken-load, load-done}
use Rattle.load_files.specs.Blocks.{block_of, MakesBlock}

module _ (tb : List ℕ) (s left : ℕ) (part rest : List ℕ) (small : s < 0x100000000) (taken : load_refusal tb s ≡ 0)
    (fit : length part ≡ 6 * block_of left) where
  many : fitting part ≡ block_of left
  many = omega arith

  pub block_made : {r : LoadReply} {out : List ℕ} → loaded r out ≡ load_of tb s part → MakesBlock tb s left (out ++ rest) r
  block_made {r} {out} e =
      let t = load-taken tb s taken in
      let f : loaded r out ≡ settle_load 0 (size_of tb) s part = e ∙ load-done tb s part t in
      let count : r.count ≡ block_of left = ap (λ (l : Loaded). l.count) f ∙ many in
      let state : r.state ≡ state_after s (block_of left) = ap (λ (l : Loaded). l.state) f ∙ ap (state_after s) many in
      let bytes : out ≡ records_from (size_of tb) s (block_of left) ++ drop (6 * block_of left) part =
      rw (← many) (ap (λ (l : Loaded). l.buffer) f) in
      let some = t.some in
      let after = after-state s (block_of left) (omega arith, small) in
      let later : Taken tb (state_after s (block_of left)) = record { table = t.table; some = λ z. omega arith } in
      record {
        count = count;
        state = state;
        records =
            rw (bytes, append_assoc)
            (take_at (records_from (size_of tb) s (block_of left)) (drop (6 * block_of left) part ++ rest) (6 * block_of left)
            (records-length (size_of tb) s (block_of left)));
        goes_on = rw state (sym (taken-load tb (state_after s (block_of left)) later));
      }
