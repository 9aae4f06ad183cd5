-- What the checks that all calls share say of a table and a session.
use Prim.Native.Nat.{ℕ, zero, suc}
use mathlib.Core.Path.{◌≡◌, refl, ◌∙◌}
use mathlib.Core.Bool.{true, false, not}
use mathlib.Core.List.{List, []}
use borrow.Author.Tests.{not-false}
use Rattle.model.specs.Refusals.{Check, refusal}
use Rattle.model.specs.Table.{table_refusal, table_shaped, table_filled}
use Rattle.model.specs.Calls.{checks_in}
use Rattle.model.proofs.RefusalLaws.{refusal-skip, refusal-passes, checks-bad-table, checks-unsound, checks-own}
use Rattle.session.specs.declared.Session.{Session}
use Rattle.session.specs.Stored.{sound_stored, Ready}
use Rattle.checks.specs.Shared.{shared_refusal}

refusal-none : refusal [] ≡ 0
unfolding refusal
refusal-none = refl

module _ (tb : List ℕ) (c : Session) where
  pub shared-bad-table : (k : ℕ) → table_refusal tb ≡ k → (k ≡ 0 → ⊥) → shared_refusal tb c ≡ k
  unfolding shared_refusal
  shared-bad-table zero e n = absurd (n refl)
  shared-bad-table (suc k) e n = checks-bad-table tb k (sound_stored tb c) [] e

  pub shared-unsound : table_refusal tb ≡ 0 → sound_stored tb c ≡ false → shared_refusal tb c ≡ 20
  unfolding shared_refusal
  shared-unsound e f = rw f (checks-unsound tb [] e)

  pub shared-passed : table_refusal tb ≡ 0 → sound_stored tb c ≡ true → shared_refusal tb c ≡ 0
  unfolding shared_refusal refusal
  shared-passed e f = rw f (checks-own tb [] e)

  -- a call that passes them is on a sound session under a good table
  pub checks-ready : (own : List Check) → refusal (checks_in tb (sound_stored tb c) own) ≡ 0 → Ready tb c
  unfolding table_refusal
  checks-ready own e =
      let c₁ = refusal-skip 0 (not (table_shaped tb)) _ e in
      let c₂ = refusal-skip 1 (not (table_filled tb)) _ c₁.1 in
      let c₂₀ = refusal-skip 19 (not (sound_stored tb c)) own c₂.1 in
      record {
        good = refusal-passes 1 _ _ c₁.0 ∙ refusal-passes 2 _ _ c₂.0 ∙ refusal-none;
        sound = not-false _ c₂₀.0;
      }

  pub shared-ready : shared_refusal tb c ≡ 0 → Ready tb c
  unfolding shared_refusal
  shared-ready e = checks-ready [] e
