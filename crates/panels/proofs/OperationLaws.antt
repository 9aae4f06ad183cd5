-- One operation by its kind, and the operations read two bytes at a time.
use Prim.Native.Nat.{ℕ, ◌-◌, ◌≤◌, ◌<◌}
use mathlib.Core.Path.{◌≡◌, refl, sym, ap}
use mathlib.Core.Bool.{Bool, true, false, ◌||◌, true≢false}
use mathlib.Core.List.{List, [], ◌∷◌, ◌++◌}
use native.Mathlib.Omega.{arith}
use lib.Dec.{eqb, ltb}
use lib.ListN.{length, get_or, take, drop, length-append}
use lib.Seq.{take_all}
use borrow.Author.Tests.{eq-eqb, ne_eqb, eqb-true, eqb-false, ltb-false}
use Rattle.panels.specs.Operations.{most_panels, Operation, operation, operated, carried_out, makes_nine, remove_topmost, operations_in}
use Rattle.panels.proofs.PanelLaws.{topmost-shorter}

module _ (k p : ℕ) (xs : List ℕ) where
  pub op-add : k ≡ 1 → operated (operation k p) xs ≡ xs ++ (p ∷ [])
  unfolding operated
  op-add e = rw (eq-eqb k 1 e)

  pub op-remove : (k ≡ 1 → ⊥) → k ≡ 2 → operated (operation k p) xs ≡ remove_topmost p xs
  unfolding operated
  op-remove n e = rw (ne_eqb k 1 n, eq-eqb k 2 e)

  pub op-replace : (k ≡ 1 → ⊥) → (k ≡ 2 → ⊥) → operated (operation k p) xs ≡ p ∷ []
  unfolding operated
  op-replace n m = rw (ne_eqb k 1 n, ne_eqb k 2 m)

  -- only an add makes one panel more
  pub op-low : length xs ≤ most_panels → (k ≡ 1 → length xs < most_panels) → length (operated (operation k p) xs) ≤ most_panels
  op-low l room = go (eqb k 1) (eqb k 2) refl refl
    where
      go : (a b : Bool) → eqb k 1 ≡ a → eqb k 2 ≡ b → length (operated (operation k p) xs) ≤ most_panels
      go true b e f = rw (op-add (eqb-true k 1 e)) (omega (arith, length-append xs (p ∷ []), room (eqb-true k 1 e)))
      go false true e f = rw (op-remove (eqb-false k 1 e) (eqb-true k 2 f)) (omega (arith, topmost-shorter p xs))
      go false false e f = rw (op-replace (eqb-false k 1 e) (eqb-false k 2 f)) (omega arith)

-- where no operation makes nine panels
pub or-false : (a b : Bool) → (a || b) ≡ false → (a ≡ false) × (b ≡ false)
or-false true b e = absurd (true≢false e)
or-false false b e = (refl, e)

pub carried-low : (os : List Operation) (xs : List ℕ) → makes_nine os xs ≡ false → length xs ≤ most_panels → length (carried_out os xs) ≤ most_panels
carried-low [] xs e l = l
carried-low (o ∷ os) xs e l =
    let h = or-false (ltb most_panels (length (operated o xs))) (makes_nine os (operated o xs)) e in
    carried-low os (operated o xs) h.1 (ltb-false most_panels (length (operated o xs)) h.0)

-- ---- the operations as bytes

pub operations-short : (l : List ℕ) → length l < 2 → operations_in l ≡ []
operations-short [] h = refl
operations-short (x ∷ []) h = refl
operations-short (x ∷ y ∷ l) h = absurd (omega (arith, h))

-- what is left behind the first
abbrev pub behind : List ℕ → List ℕ
behind l = take (length l - 2) (drop 2 l)

pub operations-more : (l : List ℕ) → 2 ≤ length l → operations_in l ≡ operation (get_or l 0 0) (get_or l 1 0) ∷ operations_in (behind l)
operations-more [] h = absurd (omega (arith, h))
operations-more (x ∷ []) h = absurd (omega (arith, h))
operations-more (x ∷ y ∷ l) h =
    ap (λ (r : List ℕ). operation x y ∷ operations_in r) (sym (take_all (length (x ∷ y ∷ l) - 2) l (omega arith)))
