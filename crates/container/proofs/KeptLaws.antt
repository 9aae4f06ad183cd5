-- The check of a container: what it says, and its loop over the kept panels.
use Prim.Native.Nat.{ℕ, zero, suc, ◌≤◌, ◌<◌}
use mathlib.Core.Path.{◌≡◌, refl, ap}
use mathlib.Core.Bool.{Bool, true, false, ◌&&◌, ◌||◌, false≢true}
use mathlib.Core.List.{List, [], ◌∷◌, map}
use native.Mathlib.Omega.{arith}
use lib.Dec.{ltb}
use lib.ListN.{length, get_or, take}
use lib.Seq.{get_or-take, length-take-le, take-take}
use borrow.Author.Tests.{le-leb, lt-leb, ltb-true, ltb-false}
use Rattle.std.specs.List.{list_all}
use Rattle.model.specs.Lists.{all, All}
use Rattle.model.proofs.Logic.{Decides, and-decides, all-decides, leb-decides, All-at}
use Rattle.panels.specs.Operations.{most_panels}
use Rattle.panels.specs.Stored.{view_panels}
use Rattle.panels.specs.declared.Panels.{Panels}
use Rattle.panels.proofs.PanelLaws.{view-low}
use Rattle.panels.proofs.OperationLaws.{or-false}
use Rattle.container.specs.Calls.{most_steps}
use Rattle.container.specs.Stored.{fits, good_container}
use Rattle.container.specs.declared.Container.{Container}
use Rattle.container.proofs.Storing.{Low}

abbrev Few : Panels → Type 0
Few q = q.count ≤ most_panels

each_fits : (ks : List Panels) → Decides (all fits ks) (All Few ks)
each_fits ks = all-decides (λ (q : Panels). leb-decides q.count most_panels) ks

-- the library's word for all that fit
pub list_all-fits : (ks : List Panels) → list_all fits ks ≡ all fits ks
list_all-fits [] = refl
list_all-fits (q ∷ ks) = ap (λ (b : Bool). fits q && b) (list_all-fits ks)

-- what the check says
pub record Good (c : Container) : Type 0 where
  pub few : c.steps ≤ most_steps
  pub low : c.now.count ≤ most_panels
  pub each : All Few (take c.steps c.kept)

pub is-good : (c : Container) → good_container c ≡ true → Good c
unfolding good_container
is-good c e =
    let h = (and-decides (leb-decides c.steps most_steps) (and-decides (leb-decides c.now.count most_panels) (each_fits (take c.steps c.kept)))).holds e in
    record { few = h.0; low = h.1.0; each = h.1.1 }

-- ---- as the code looks

module _ (c : Container) where
  pub good-first : (ltb 8 c.steps || ltb 8 c.now.count) ≡ false → (c.steps ≤ 8) × (c.now.count ≤ 8)
  good-first e = let h = or-false (ltb 8 c.steps) (ltb 8 c.now.count) e in (ltb-false 8 c.steps h.0, ltb-false 8 c.now.count h.1)

  pub good-bad : (ltb 8 c.steps || ltb 8 c.now.count) ≡ true → false ≡ good_container c
  unfolding good_container
  good-bad e = go (ltb 8 c.steps) (ltb 8 c.now.count) refl refl e
    where
      go : (a b : Bool) → ltb 8 c.steps ≡ a → ltb 8 c.now.count ≡ b → (a || b) ≡ true → false ≡ good_container c
      go true b f g h = rw (lt-leb c.steps most_steps (ltb-true 8 c.steps f))
      go false true f g h =
          rw (le-leb c.steps most_steps (ltb-false 8 c.steps f), lt-leb c.now.count most_panels (ltb-true 8 c.now.count g))
      go false false f g h = absurd (false≢true h)

  -- where both fit, the kept ones decide
  pub good-kept : (ltb 8 c.steps || ltb 8 c.now.count) ≡ false → all fits (take c.steps c.kept) ≡ good_container c
  unfolding good_container
  good-kept e = let h = good-first e in rw (le-leb c.steps most_steps h.0, le-leb c.now.count most_panels h.1)

-- ---- the first kept panels fit

pub fits-at : (ks : List Panels) (i : ℕ) (d : Panels) → i < length ks → all fits ks ≡ true → (get_or ks i d).count ≤ most_panels
fits-at ks i d l h = All-at Few ks i d l ((each_fits ks).holds h)

pub kept_low : (c : Container) → length c.kept ≡ 8 → Good c → (i : ℕ) (d : Panels) → i < c.steps → (get_or c.kept i d).count ≤ most_panels
kept_low c z g i d l =
    let few = g.few in
    rw (get_or-take c.steps c.kept i d l) at (All-at Few (take c.steps c.kept) i d (omega (arith, l, length-take-le c.steps c.kept (omega arith))) g.each)

pub All-take : {A : Type 0} (P : A → Type 0) (i : ℕ) (l : List A) → All P l → All P (take i l)
All-take P zero l h = tt
All-take P (suc i) [] h = tt
All-take P (suc i) (x ∷ l) h = (h.0, All-take P i l h.1)

pub fits-fewer : (ks : List Panels) (m n : ℕ) → m ≤ n → All Few (take n ks) → all fits (take m ks) ≡ true
fits-fewer ks m n l h = (each_fits (take m ks)).shows (rw (take-take m n ks l) at (All-take Few m (take n ks) h))

pub each-low : (ks : List Panels) → All Few ks → All Low (map view_panels ks)
each-low [] h = tt
each-low (q ∷ ks) h = (view-low q h.0, each-low ks h.1)
