-- What a step gives, by what the code found.
use Prim.Native.Nat.{ℕ, ◌≤◌, ◌<◌}
use mathlib.Core.Path.{◌≡◌, refl, sym, ap, ◌∙◌}
use mathlib.Core.Bool.{Bool, true, false, not, ◌&&◌, ◌||◌, true≢false}
use mathlib.Core.List.{List, map}
use native.Mathlib.Omega.{arith}
use lib.Dec.{eqb}
use lib.ListN.{length, take}
use borrow.Author.Tests.{eq-eqb, ne_eqb, eqb-false}
use Rattle.std.specs.Prelude.{if◌then◌else◌, Result, Ok, Err}
use Rattle.std.proofs.lemmas.Result.{IfOk-at_ok, IfErr-at_err}
use Rattle.model.specs.declared.Refusal.{Refusal}
use Rattle.model.specs.Refusals.{refusal, refusal_number}
use Rattle.panels.specs.Operations.{most_panels, operations_in, carried_out, makes_nine, good_operations}
use Rattle.panels.specs.Stored.{view_panels, hold_panels, carried_or37}
use Rattle.panels.specs.declared.Panels.{Panels}
use Rattle.panels.proofs.PanelLaws.{view-held, view-low, held-count}
use Rattle.panels.proofs.OperationLaws.{carried-low}
use Rattle.container.specs.Calls.{most_steps, state, stepped}
use Rattle.container.specs.Stored.{view, hold, with_kept, good_container, has_no_place, checks_of, refusal_at, called, step_of}
use Rattle.container.specs.declared.Container.{Container}
use Rattle.container.proofs.Storing.{keep-held, held_steps, view-count}
use Rattle.container.proofs.KeptLaws.{Good, is-good}
use Rattle.container.proofs.CallLaws.{reply, refused, accepted}

-- the code's test for 38
abbrev pub no_place : ℕ → ℕ → Bool
no_place r n = (eqb r 0 && not (eqb n 0)) || (not (eqb r 0) && eqb n 8)

place-test : (r n : ℕ) (b : Bool) → no_place r n ≡ b → has_no_place (not (eqb r 0)) n ≡ b
place-test r n b e = go (eqb r 0) (eqb n 0) refl e
  where
    go : (a x : Bool) → eqb n 0 ≡ x → ((a && not x) || (not a && eqb n 8)) ≡ b → has_no_place (not a) n ≡ b
    go true true q f = rw q f
    go true false q f = rw q f
    go false x q f = f

pub both_true : (a b : Bool) → (not a || not b) ≡ false → (a ≡ true) × (b ≡ true)
both_true true true e = (refl, refl)
both_true true false e = absurd (true≢false e)
both_true false b e = absurd (true≢false e)

abbrev pub bad : List ℕ → Container → Bool
bad l c = not (good_operations l) || not (good_container c)

pub step-36 : (r : ℕ) (l : List ℕ) (c : Container) → bad l c ≡ true → reply c 36 ≡ called (step_of r l) c
unfolding refusal checks_of
step-36 r l c t = refused (step_of r l) c 35 (rw t)

-- what the operations give, by whether one makes nine panels
abbrev gave : Bool → List ℕ → Result Panels Refusal
gave nine xs = if nine then Err Refusal.PanelsFull else Ok (hold_panels xs)

-- they were refused
module _ (r : ℕ) (l : List ℕ) (c : Container) (p : bad l c ≡ false) where
  pub step-37 : (e : Refusal) → Err e ≡ carried_or37 (operations_in l) (view_panels c.now) → reply c (refusal_number e) ≡ called (step_of r l) c
  unfolding refusal checks_of carried_or37
  step-37 e h = go (makes_nine (operations_in l) (view_panels c.now)) refl h
    where
      go : (b : Bool) → makes_nine (operations_in l) (view_panels c.now) ≡ b
          → Err e ≡ gave b (carried_out (operations_in l) (view_panels c.now)) → reply c (refusal_number e) ≡ called (step_of r l) c
      go true m i =
          let f : e ≡ Refusal.PanelsFull = IfErr-at_err (λ z. e ≡ z) i refl in
          ap (λ (x : Refusal). reply c (refusal_number x)) f ∙ refused (step_of r l) c 36 (rw (p, m))
      go false m i = absurd (IfOk-at_ok (λ _. ⊥) i tt)

-- the checks up to 37 are passed, and the operations gave q
pub record Known (r : ℕ) (l : List ℕ) (c : Container) (q : Panels) : Type 0 where
  pub passed : bad l c ≡ false
  pub carried : Ok q ≡ carried_or37 (operations_in l) (view_panels c.now)

pub known : (r : ℕ) (l : List ℕ) (c : Container) {q : Panels} {a b : Bool} {made : Result Panels Refusal}
    → a ≡ good_operations l → b ≡ good_container c → (not a || not b) ≡ false
    → made ≡ carried_or37 (operations_in l) (view_panels c.now) → made ≡ Ok q → Known r l c q
known r l c e f p h m = record { passed = rw (e, f) at p; carried = sym m ∙ h }

module _ {r : ℕ} {l : List ℕ} {c : Container} {q : Panels} (k : Known r l c q) where
  pub good : Good c
  good = is-good c (both_true (good_operations l) (good_container c) k.passed).1

  given : (makes_nine (operations_in l) (view_panels c.now) ≡ false) × (q ≡ hold_panels (carried_out (operations_in l) (view_panels c.now)))
  unfolding carried_or37
  given = go (makes_nine (operations_in l) (view_panels c.now)) k.carried
    where
      go : (b : Bool) → Ok q ≡ gave b (carried_out (operations_in l) (view_panels c.now))
          → (b ≡ false) × (q ≡ hold_panels (carried_out (operations_in l) (view_panels c.now)))
      go true i = absurd (IfErr-at_err (λ _. ⊥) i tt)
      go false i = (refl, IfOk-at_ok (λ z. q ≡ z) i refl)

  fine : makes_nine (operations_in l) (view_panels c.now) ≡ false
  fine = given.0

  gives : q ≡ hold_panels (carried_out (operations_in l) (view_panels c.now))
  gives = given.1

  pub shown-low : q.count ≤ most_panels
  shown-low =
      omega (arith, held-count q _ gives, carried-low (operations_in l) (view_panels c.now) fine (view-low c.now good.low))

  pub step-38 : no_place r c.steps ≡ true → reply c 38 ≡ called (step_of r l) c
  unfolding refusal checks_of
  step-38 t = refused (step_of r l) c 37 (rw (k.passed, fine, place-test r c.steps true t))

  module _ (t : no_place r c.steps ≡ false) {out : Container}
      (h : out ≡ hold (state (view_panels q) (map view_panels (take c.steps c.kept)))) where
    passes : refusal_at (step_of r l) c ≡ 0
    unfolding refusal checks_of
    passes = rw (k.passed, fine, place-test r c.steps false t)

    made : out ≡ hold (state (carried_out (operations_in l) (view_panels c.now)) (map view_panels (take c.steps c.kept)))
    made = h ∙ rw (gives, view-held (carried_out (operations_in l) (view_panels c.now)))

    pub unrecorded-0 : r ≡ 0 → reply out 0 ≡ called (step_of r l) c
    unfolding stepped view
    unrecorded-0 n = ap (λ (x : Container). reply x 0) (made ∙ rw (eq-eqb r 0 n)) ∙ accepted (step_of r l) c passes

    module _ (n : r ≡ 0 → ⊥) (y : length c.kept ≡ 8) where
      room : length (map view_panels (take c.steps c.kept)) < most_steps
      room =
          let few = good.few in
          let e = eqb-false c.steps most_steps (rw (ne_eqb r 0 n) at (place-test r c.steps false t)) in
          omega (arith, e, view-count c.kept c.steps (omega arith))

      pub has-place : out.steps < most_steps
      has-place = omega (arith, room, held_steps out _ made)

      pub recorded-0 : reply (with_kept out (hold_panels (view_panels c.now))) 0 ≡ called (step_of r l) c
      unfolding stepped view
      recorded-0 =
          ap (λ (x : Container). reply x 0) (keep-held out _ (view_panels c.now) made room ∙ rw (ne_eqb r 0 n)) ∙ accepted (step_of r l) c passes
