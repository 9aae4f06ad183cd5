-- Refused and accepted calls, and what Back gives, by what the code found.
use Prim.Native.Nat.{ℕ, zero, suc, ◌-◌, ◌<◌}
use mathlib.Core.Path.{◌≡◌, refl, sym, ap, ◌∙◌}
use mathlib.Core.Bool.{Bool, true, false}
use mathlib.Core.List.{List, [], ◌∷◌, map}
use native.Mathlib.Omega.{arith}
use lib.Dec.{eqb}
use lib.ListN.{length, get_or, take}
use lib.Seq.{take-take, get_or-take, length-take-le}
use borrow.Author.Tests.{ne_eqb, eqb-true}
use Rattle.std.specs.Prelude.{if◌then◌else◌}
use Rattle.model.specs.Refusals.{refusal}
use Rattle.panels.specs.Stored.{view_panels}
use Rattle.panels.specs.declared.Panels.{Panels}
use Rattle.container.specs.Calls.{state, Call, back, carried, backed}
use Rattle.container.specs.Stored.{Reply, view, hold, good_container, checks_of, refusal_at, called}
use Rattle.container.specs.declared.Container.{Container}
use Rattle.container.proofs.Storing.{view-count}
use Rattle.container.proofs.KeptLaws.{is-good}

abbrev pub reply : Container → ℕ → Reply
reply c n = record { container = c; refusal = n }

module _ (a : Call) (c : Container) where
  pub refused : (n : ℕ) → refusal_at a c ≡ suc n → reply c (suc n) ≡ called a c
  unfolding called
  refused n e = let z : eqb (suc n) 0 ≡ false = ne_eqb (suc n) 0 (λ h. omega (arith, h)) in rw (e, z)

  pub accepted : refusal_at a c ≡ 0 → reply (hold (carried a (view c))) 0 ≡ called a c
  unfolding called
  accepted e = rw e

  -- a refusal of 0 is that of the checks
  pub taken : (called a c).refusal ≡ 0 → refusal_at a c ≡ 0
  unfolding called
  taken e = go (eqb (refusal_at a c) 0) refl e
    where
      go : (b : Bool) → eqb (refusal_at a c) 0 ≡ b → (if b then reply (hold (carried a (view c))) 0 else reply c (refusal_at a c)).refusal ≡ 0
          → refusal_at a c ≡ 0
      go true f h = eqb-true (refusal_at a c) 0 f
      go false f h = h

-- ---- Back

module _ {A B : Type 0} (f : A → B) where
  map-take : (i : ℕ) (l : List A) → take i (map f l) ≡ map f (take i l)
  map-take zero l = refl
  map-take (suc i) [] = refl
  map-take (suc i) (x ∷ l) = ap (λ (r : List B). f x ∷ r) (map-take i l)

  map_at : (l : List A) (i : ℕ) (d : A) (e : B) → i < length l → get_or (map f l) i e ≡ f (get_or l i d)
  map_at [] i d e h = absurd (omega (arith, h))
  map_at (x ∷ l) zero d e h = refl
  map_at (x ∷ l) (suc i) d e h = map_at l i d e (omega (arith, h))

pub back-36 : (c : Container) → good_container c ≡ false → reply c 36 ≡ called back c
unfolding refusal checks_of
back-36 c e = refused back c 35 (rw e)

module _ (c : Container) (g : good_container c ≡ true) (z : length c.kept ≡ 8) where
  pub back-38 : c.steps ≡ 0 → reply c 38 ≡ called back c
  unfolding refusal checks_of
  back-38 e = refused back c 37 (rw (g, e))

  back-state : (d : Panels) → 0 < c.steps
      → backed (view c) ≡ state (view_panels (get_or c.kept (c.steps - 1) d)) (map view_panels (take (c.steps - 1) c.kept))
  unfolding backed view
  back-state d h =
      let f = (is-good c g).few in
      let n = view-count c.kept c.steps (omega arith) in
      let l = length-take-le c.steps c.kept (omega arith) in
      rw (
        n,
        map_at view_panels (take c.steps c.kept) (c.steps - 1) d [] (omega (arith, l)),
        get_or-take c.steps c.kept (c.steps - 1) d (omega arith),
        map-take view_panels (c.steps - 1) (take c.steps c.kept),
        take-take (c.steps - 1) c.steps c.kept (omega arith),
      )

  pub back-0 : (out : Container) (d : Panels) → (c.steps ≡ 0 → ⊥)
      → out ≡ hold (state (view_panels (get_or c.kept (c.steps - 1) d)) (map view_panels (take (c.steps - 1) c.kept)))
      → reply out 0 ≡ called back c
  unfolding refusal checks_of
  back-0 out d h o =
      ap (λ (x : Container). reply x 0) (o ∙ ap hold (sym (back-state d (omega (arith, h))))) ∙ accepted back c (rw (g, ne_eqb c.steps 0 h))
