-- What is stored comes back, 36 is not drawn for it, and one step more is kept.
use Prim.Native.Nat.{ℕ, ◌+◌, ◌≤◌, ◌<◌}
use mathlib.Core.Path.{◌≡◌, refl, sym, ap, ◌∙◌}
use mathlib.Core.Bool.{true}
use mathlib.Core.List.{List, [], ◌∷◌, ◌++◌, map}
use native.Mathlib.Numerals.{add-one}
use native.Mathlib.Omega.{arith}
use lib.ListN.{length, get_or, set, take, length-map, length-append}
use lib.Seq.{take-suc, length-take-le}
use borrow.Author.Tests.{le-leb}
use Rattle.model.specs.Lists.{all, All}
use Rattle.session.specs.Stored.{pad}
use Rattle.session.proofs.Padding.{take-pad, pad-push}
use Rattle.panels.specs.Operations.{most_panels}
use Rattle.panels.specs.Stored.{no_panels, view_panels, hold_panels}
use Rattle.panels.specs.declared.Panels.{Panels}
use Rattle.panels.proofs.PanelLaws.{view-held}
use Rattle.container.specs.Calls.{most_steps, State, state}
use Rattle.container.specs.Stored.{empty_container, view, hold, with_kept, fits, good_container}
use Rattle.container.specs.declared.Container.{Container}

view-each : (kept : List (List ℕ)) → map view_panels (map hold_panels kept) ≡ kept
view-each [] = refl
view-each (xs ∷ kept) = rw (view-held xs, view-each kept)

held_kept : (kept : List (List ℕ)) → take (length kept) (pad most_steps no_panels (map hold_panels kept)) ≡ map hold_panels kept
held_kept kept = take-pad most_steps no_panels (length kept) (map hold_panels kept) (length-map kept hold_panels)

pub view-hold : (s : State) → view (hold s) ≡ s
unfolding view hold
view-hold s = λ i. record { now = view-held s.now i; kept = (ap (map view_panels) (held_kept s.kept) ∙ view-each s.kept) i }

pub empty-held : empty_container ≡ hold (state [] [])
unfolding hold hold_panels pad
empty-held = refl

pub held_steps : (c : Container) (s : State) → c ≡ hold s → c.steps ≡ length s.kept
unfolding hold
held_steps c s e = ap (λ (x : Container). x.steps) e

-- ---- 36 is not drawn for it

abbrev pub Low : List ℕ → Type 0
Low xs = length xs ≤ most_panels

pub record Fits (s : State) : Type 0 where
  pub few : length s.kept ≤ most_steps
  pub low : Low s.now
  pub kept_low : All Low s.kept

fits_each : (kept : List (List ℕ)) → All Low kept → all fits (map hold_panels kept) ≡ true
unfolding hold_panels
fits_each [] h = refl
fits_each (xs ∷ kept) h = rw (le-leb (length xs) most_panels h.0) (fits_each kept h.1)

pub held-good : (s : State) → Fits s → good_container (hold s) ≡ true
unfolding good_container hold hold_panels
held-good s h =
    rw (le-leb (length s.kept) most_steps h.few, le-leb (length s.now) most_panels h.low, held_kept s.kept)
    (fits_each s.kept h.kept_low)

-- ---- one step more

map_snoc : {A B : Type 0} (f : A → B) (x : A) (xs : List A) → map f (xs ++ (x ∷ [])) ≡ map f xs ++ (f x ∷ [])
map_snoc f x [] = refl
map_snoc f x (y ∷ xs) = ap (λ l. f y ∷ l) (map_snoc f x xs)

pub keep-held : (c : Container) (s : State) (xs : List ℕ) → c ≡ hold s → length s.kept < most_steps
    → with_kept c (hold_panels xs) ≡ hold (state s.now (s.kept ++ (xs ∷ [])))
unfolding hold
keep-held c s xs e l =
    let n : length s.kept + 1 ≡ length (s.kept ++ (xs ∷ [])) = omega (arith, length-append s.kept (xs ∷ [])) in
    let k : pad most_steps no_panels (map hold_panels (s.kept ++ (xs ∷ [])))
    ≡ set (pad most_steps no_panels (map hold_panels s.kept)) (length s.kept) (hold_panels xs) =
    ap (pad most_steps no_panels) (map_snoc hold_panels xs s.kept)
    ∙ pad-push most_steps no_panels (length s.kept) (hold_panels xs) (map hold_panels s.kept) (length-map s.kept hold_panels) l in
    ap (λ (x : Container). with_kept x (hold_panels xs)) e ∙ (λ i. record { now = hold_panels s.now; steps = n i; kept = sym k i })

-- panels, and nothing kept
pub now-held : (c : Container) (q shown : Panels) → c ≡ empty_container → q ≡ hold_panels (view_panels shown)
    → ◌≡◌ {A = Container} (record { now = q; steps = c.steps; kept = c.kept }) (hold (state (view_panels q) []))
unfolding hold pad
now-held c q shown e z =
    λ i. record { now = (z ∙ ap hold_panels (sym (ap view_panels z ∙ view-held (view_panels shown)))) i; steps = (e i).steps; kept = (e i).kept }

-- the kept panels that are viewed, and those of one step more
pub view-count : (ks : List Panels) (i : ℕ) → i ≤ length ks → length (map view_panels (take i ks)) ≡ i
view-count ks i l = length-map (take i ks) view_panels ∙ length-take-le i ks l

pub view-next : (ks : List Panels) (i : ℕ) (d : Panels) → i < length ks
    → map view_panels (take (i + 1) ks) ≡ map view_panels (take i ks) ++ (view_panels (get_or ks i d) ∷ [])
view-next ks i d l = rw (add-one i, take-suc ks i d l) (map_snoc view_panels (get_or ks i d) (take i ks))
