-- The checks of a start before it looks for room: what number they give, and what is known where they give none.
use Prim.Native.Nat.{ℕ, zero, suc, ◌≤◌, ◌<◌, zero-le, suc-le-suc}
use mathlib.Core.Path.{◌≡◌, refl, sym, ◌∙◌, ap}
use mathlib.Core.Bool.{true, false, not}
use mathlib.Core.List.{List, [], ◌∷◌, ◌++◌}
use native.Mathlib.Omega.{arith}
use lib.Dec.{ltb, eqb}
use lib.ListN.{length}
use borrow.Author.Tests.{ltb-true, eqb-false, lt-ltb, le-ltb, eq-eqb, ne_eqb, not-false}
use Rattle.model.specs.Lists.{is_empty, All}
use Rattle.model.specs.Refusals.{check, refusal}
use Rattle.model.specs.Table.{size_of}
use Rattle.model.specs.Session.{Stack}
use Rattle.model.specs.Flags.{has_other_bit}
use Rattle.model.specs.Calls.{chosen, room_checks, start_checks}
use Rattle.model.proofs.RefusalLaws.{refusal-skip, refusal-applies, refusal-passes}
use Rattle.session.specs.declared.Session.{Session}
use Rattle.session.specs.Stored.{view, storage_blank}
use Rattle.session.proofs.Known.{Sized}
use Rattle.session.proofs.StoredLaws.{view-count, blank-few}
use Rattle.starts.specs.Checks.{start_entry}

pub refusal-none : refusal [] ≡ 0
unfolding refusal
refusal-none = refl

pub some-stand : (n : ℕ) → eqb n 0 ≡ false → 1 ≤ n
some-stand n e = let f = eqb-false n 0 e in go n f
  where
    go : (n : ℕ) → (n ≡ 0 → ⊥) → 1 ≤ n
    go zero f = absurd (f refl)
    go (suc n) f = suc-le-suc zero-le

module _ (tb : List ℕ) (n b w : ℕ) where
  pub start-3 : size_of tb ≤ b → refusal (start_entry tb n b w) ≡ 3
  start-3 l = refusal-applies 3 _ _ (rw (le-ltb b (size_of tb) l))

  module _ (known : b < size_of tb) where
    pass-3 : refusal (start_entry tb n b w) ≡ refusal (check 4 (has_other_bit w) ∷ check 21 (eqb n 0) ∷ [])
    pass-3 = refusal-passes 3 _ _ (rw (lt-ltb b (size_of tb) known))

    pub start-4 : has_other_bit w ≡ true → refusal (start_entry tb n b w) ≡ 4
    start-4 e = pass-3 ∙ refusal-applies 4 _ _ e

    module _ (six : has_other_bit w ≡ false) where
      pub start-21 : n ≡ 0 → refusal (start_entry tb n b w) ≡ 21
      start-21 e = pass-3 ∙ refusal-passes 4 _ _ six ∙ refusal-applies 21 _ _ (eq-eqb n 0 e)

      pub start-0 : (n ≡ 0 → ⊥) → refusal (start_entry tb n b w) ≡ 0
      start-0 e = pass-3 ∙ refusal-passes 4 _ _ six ∙ refusal-passes 21 _ _ (ne_eqb n 0 e) ∙ refusal-none

  -- what is known where they pass
  pub record Entered : Type 0 where
    pub known : b < size_of tb
    pub some : 1 ≤ n

  pub start-entered : refusal (start_entry tb n b w) ≡ 0 → Entered
  start-entered e =
      let c₃ = refusal-skip 2 (not (ltb b (size_of tb))) _ e in
      let c₄ = refusal-skip 3 (has_other_bit w) _ c₃.1 in
      let c₂₁ = refusal-skip 20 (eqb n 0) _ c₄.1 in
      record { known = ltb-true b (size_of tb) (not-false _ c₃.0); some = some-stand n c₂₁.0 }

  pub start-numbers : All (λ c. 1 ≤ c.refusal) (start_entry tb n b w)
  start-numbers = (omega arith, (omega arith, (omega arith, tt)))

-- ---- on a stored session

module _ (c : Session) (z : Sized c) (e : storage_blank c ≡ true) where
  -- it is empty where it counts no task
  pub empty : is_empty (view c).tasks ≡ eqb c.n 0
  empty = go (view c).tasks ∙ ap (λ (n : ℕ). eqb n 0) (view-count c z (blank-few c e))
    where
      go : (ts : List (Stack ℕ)) → is_empty ts ≡ eqb (length ts) 0
      go [] = refl
      go (t ∷ ts) = sym (ne_eqb (suc (length ts)) 0 (λ e. omega arith))

  -- the checks of a start: those at its entry, and those for room
  pub start-split : (tb : List ℕ) (b w : ℕ) → start_checks tb (view c) b w ≡ start_entry tb c.n b w ++ room_checks (chosen tb (view c) b w) (view c)
  start-split tb b w = rw empty
