-- The screens that an effect closes, by the height of the task that it changes and how many stand above the topmost b in it.
use Prim.Native.Nat.{ℕ, pred, ◌≤◌, ◌<◌}
use mathlib.Core.Path.{◌≡◌, refl, sym, ◌∙◌, ap}
use mathlib.Core.Bool.{true}
use native.Mathlib.Omega.{arith}
use lib.Dec.{eqb}
use lib.ListN.{get_or}
use Rattle.model.specs.declared.Change.{Change}
use Rattle.model.specs.declared.Effect.{Effect}
use Rattle.model.specs.Lists.{find}
use Rattle.model.specs.Session.{Stack, no_stack, most_height}
use Rattle.model.specs.Counts.{closed_in, closed_by}
use Rattle.session.specs.declared.Session.{Session}
use Rattle.session.specs.declared.Task.{Task}
use Rattle.session.specs.Stored.{view, view_task, task_behind, blank_above, storage_blank}
use Rattle.session.proofs.Known.{Sized, Screens32}
use Rattle.session.proofs.StoredLaws.{view-at, sized-at, blank-few}
use Rattle.effects.proofs.Carriable.{Carriable}
use Rattle.effects.specs.Fronted.{above_in, above_for, closed_in_task, closed_for, shift_of}
use Rattle.effects.proofs.Changes.{blank-low, blank-height, above-pred, above-low}
use Rattle.effects.proofs.Fronts.{stored-blank, in-front, at_place}

module _ (t : Task) (l : Screens32 t) (e : blank_above t ≡ true) (b : ℕ) where
  -- of a change
  closed_is : (c : Change) → closed_in_task c t.height (above_in b c t) ≡ closed_in (eqb b) c (view_task t).screens
  unfolding closed_in
  closed_is Change.Keep = refl
  closed_is Change.Renew = sym (blank-height t l e)
  closed_is Change.Clear = above-pred (find (eqb b) (view_task t).screens)
  closed_is Change.Lift = refl
  closed_is Change.Push = refl

  -- at most all of them
  closed-low : (c : Change) → closed_in_task c t.height (above_in b c t) ≤ most_height
  closed-low Change.Keep = omega arith
  closed-low Change.Renew = blank-low t e
  closed-low Change.Clear =
      let low = above-low t l e b _ refl in
      let few = blank-low t e in
      omega arith
  closed-low Change.Lift = omega arith
  closed-low Change.Push = omega arith

module _ (s : Session) (z : Sized s) (p b : ℕ) where
  -- the task behind i others, changed
  module _ (c : Change) (i : ℕ) (e : storage_blank s ≡ true) (h : i < s.n) where
    abbrev t : Task
    t = task_behind s i

    read : closed_in_task c t.height (above_in b c t) ≡ closed_in (eqb b) c (get_or (view s).tasks i no_stack).screens
    read =
        closed_is t (sized-at s z i (omega (arith, blank-few s e))) (stored-blank s z e i h) b c
        ∙ ap (λ (u : Stack ℕ). closed_in (eqb b) c u.screens) (sym (view-at s i h))

    read_low : closed_in_task c t.height (above_in b c t) ≤ most_height
    read_low = closed-low t (sized-at s z i (omega (arith, blank-few s e))) (stored-blank s z e i h) b c

  -- of an effect: the definition's number
  pub closed-effect : (d : Effect) → Carriable s d p
      → let t = task_behind s (shift_of d p s.n) in closed_for d t.height (above_for b d t) ≡ closed_by (eqb b) d p (view s)
  unfolding closed_by
  closed-effect Effect.New k = refl
  closed-effect (Effect.InFront c) k = read c 0 k.blank (in-front s z p k)
  closed-effect (Effect.MoveAnd c) k = read c (pred p) k.blank (at_place s z p k)

  pub closed-few : (d : Effect) → Carriable s d p
      → let t = task_behind s (shift_of d p s.n) in closed_for d t.height (above_for b d t) ≤ most_height
  closed-few Effect.New k = omega arith
  closed-few (Effect.InFront c) k = read_low c 0 k.blank (in-front s z p k)
  closed-few (Effect.MoveAnd c) k = read_low c (pred p) k.blank (at_place s z p k)
