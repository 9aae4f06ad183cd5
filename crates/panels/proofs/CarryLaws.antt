-- The operations of a step carried out one by one.
use Prim.Native.Nat.{ℕ, ◌≤◌, ◌<◌}
use mathlib.Core.Path.{◌≡◌, refl, sym, ap, ◌∙◌}
use mathlib.Core.Bool.{Bool, true, false, ◌||◌}
use mathlib.Core.List.{List, [], ◌∷◌}
use native.Mathlib.Omega.{arith}
use lib.Dec.{eqb, ltb}
use lib.ListN.{length, get_or, length-append}
use borrow.Author.Tests.{le-ltb, lt-ltb, ltb-false}
use Rattle.std.specs.Prelude.{if◌then◌else◌, Result, Ok, Err}
use Rattle.std.proofs.lemmas.Result.{IfOk-at_ok, IfErr-at_err}
use Rattle.model.specs.declared.Refusal.{Refusal}
use Rattle.panels.specs.Operations.{most_panels, Operation, operation, operated, operations_in, makes_nine, carried_out, remove_topmost}
use Rattle.panels.specs.Stored.{no_panels, view_panels, hold_panels, pushed, IsClean, read_operation, written_operation, carried_or37}
use Rattle.panels.specs.declared.Operation.{Operation as Read}
use Rattle.panels.specs.declared.Panels.{Panels}
use Rattle.panels.proofs.PanelLaws.{view-held, held-clean, clean-count, none-held, push-held, topmost-shorter}
use Rattle.panels.proofs.OperationLaws.{op-add, op-remove, op-replace, operations-more, operations-short, behind}

-- what is carried out, or 37
abbrev carried : Bool → List ℕ → Result Panels Refusal
carried nine xs = if nine then Err Refusal.PanelsFull else Ok (hold_panels xs)

-- ---- one operation

module _ (o : Operation) (xs : List ℕ) where
  one-gives : {r : Panels} {ys : List ℕ} → operated o xs ≡ ys → length ys ≤ most_panels → r ≡ hold_panels ys → Ok r ≡ carried_or37 (o ∷ []) xs
  unfolding carried_or37
  one-gives {r} {ys} f l e =
      let n : length (operated o xs) ≤ most_panels = rw f l in
      rw (le-ltb most_panels (length (operated o xs)) n, f, e)

  one-ninth : most_panels < length (operated o xs) → Err Refusal.PanelsFull ≡ carried_or37 (o ∷ []) xs
  unfolding carried_or37
  one-ninth l = rw (lt-ltb most_panels (length (operated o xs)) l)

  -- and others behind it
  module _ (os : List Operation) where
    all-refused : (e : Refusal) → Err e ≡ carried_or37 (o ∷ []) xs → carried_or37 (o ∷ os) xs ≡ Err e
    unfolding carried_or37
    all-refused e h = go (ltb most_panels (length (operated o xs))) h
      where
        go : (b : Bool) → Err e ≡ carried (b || false) (operated o xs)
            → carried (b || makes_nine os (operated o xs)) (carried_out os (operated o xs)) ≡ Err e
        go true h = sym h
        go false h = absurd (IfOk-at_ok (λ _. ⊥) h tt)

    all-left : (q : Panels) → Ok q ≡ carried_or37 (o ∷ []) xs → IsClean q × (carried_or37 (o ∷ os) xs ≡ carried_or37 os (view_panels q))
    unfolding carried_or37
    all-left q h = go (ltb most_panels (length (operated o xs))) refl h
      where
        go : (b : Bool) → ltb most_panels (length (operated o xs)) ≡ b → Ok q ≡ carried (b || false) (operated o xs)
            → IsClean q
            × (carried (b || makes_nine os (operated o xs)) (carried_out os (operated o xs)) ≡ carried_or37 os (view_panels q))
        go true f h = absurd (IfErr-at_err (λ _. ⊥) h tt)
        go false f h =
            let y : q ≡ hold_panels (operated o xs) = IfOk-at_ok (λ z. q ≡ z) h refl in (
              held-clean q (operated o xs) y (ltb-false most_panels (length (operated o xs)) f),
              ap (carried_or37 os) (sym (ap view_panels y ∙ view-held (operated o xs))),
            )

-- ---- one operation on stored panels, by its kind

module _ (q : Panels) (h : IsClean q) (p : ℕ) where
  abbrev ys : List ℕ
  ys = view_panels q

  pub add-ninth : q.count ≡ 8 → Err Refusal.PanelsFull ≡ carried_or37 (operation 1 p ∷ []) ys
  add-ninth e =
      one-ninth (operation 1 p) ys (rw (op-add 1 p ys refl) (omega (arith, e, clean-count q h, length-append ys (p ∷ []))))

  pub add-fits : (q.count ≡ 8 → ⊥) → {r : Panels} → r ≡ pushed q p → Ok r ≡ carried_or37 (operation 1 p ∷ []) ys
  add-fits n e =
      let c = clean-count q h in
      let l : length ys < most_panels = omega (arith, n, c, h.0) in
      one-gives (operation 1 p) ys (op-add 1 p ys refl) (omega (arith, length-append ys (p ∷ []), l)) (e ∙ push-held q ys p h.1 l)

  pub remove-fits : {r : Panels} → r ≡ hold_panels (remove_topmost p ys) → Ok r ≡ carried_or37 (operation 2 p ∷ []) ys
  remove-fits e =
      one-gives (operation 2 p) ys (op-remove 2 p ys (λ i. omega (arith, i)) refl)
      (omega (arith, topmost-shorter p ys, clean-count q h, h.0)) e

pub replace-fits : (q : Panels) (p : ℕ) {none r : Panels} → none ≡ no_panels → r ≡ pushed none p
    → Ok r ≡ carried_or37 (operation 3 p ∷ []) (view_panels q)
replace-fits q p {none} z e =
    one-gives (operation 3 p) (view_panels q) (op-replace 3 p (view_panels q) (λ i. omega (arith, i)) (λ i. omega (arith, i)))
    (omega arith) (e ∙ push-held none [] p (z ∙ none-held) (omega arith))

-- ---- the first of those that are left

-- what is read is what was written
read-same : (k p : ℕ) (xs : List ℕ) → operated (written_operation (read_operation k p)) xs ≡ operated (operation k p) xs
unfolding operated
read-same k p xs = go (eqb k 1) (eqb k 2) refl refl
  where
    go : (a b : Bool) → eqb k 1 ≡ a → eqb k 2 ≡ b → operated (written_operation (read_operation k p)) xs ≡ operated (operation k p) xs
    go true b e f = rw e
    go false true e f = rw (e, f)
    go false false e f = rw (e, f)

module _ (l : List ℕ) (out : Panels) (long : 2 ≤ length l) where
  abbrev first : Operation
  first = operation (get_or l 0 0) (get_or l 1 0)

  module _ {o : Read} (i : o ≡ read_operation (get_or l 0 0) (get_or l 1 0)) {r : Result Panels Refusal}
      (h : r ≡ carried_or37 (written_operation o ∷ []) (view_panels out)) where
    gave : r ≡ carried_or37 (first ∷ []) (view_panels out)
    unfolding carried_or37
    gave = h ∙ rw (i, read-same (get_or l 0 0) (get_or l 1 0) (view_panels out))

    left : carried_or37 (operations_in l) (view_panels out) ≡ carried_or37 (first ∷ operations_in (behind l)) (view_panels out)
    left = ap (λ (os : List Operation). carried_or37 os (view_panels out)) (operations-more l long)

    pub step-refused : (e : Refusal) → r ≡ Err e → carried_or37 (operations_in l) (view_panels out) ≡ Err e
    step-refused e w = left ∙ all-refused first (view_panels out) (operations_in (behind l)) e (sym w ∙ gave)

    pub step-left : (q : Panels) → r ≡ Ok q
        → IsClean q × (carried_or37 (operations_in l) (view_panels out) ≡ carried_or37 (operations_in (behind l)) (view_panels q))
    step-left q w =
        let a = all-left first (view_panels out) (operations_in (behind l)) q (sym w ∙ gave) in
        (a.0, left ∙ a.1)

pub step-end : (l : List ℕ) (out : Panels) → IsClean out → length l < 2 → carried_or37 (operations_in l) (view_panels out) ≡ Ok out
unfolding carried_or37
step-end l out h b = rw (operations-short l b) (ap (λ (q : Panels). Ok q) (sym h.1))
