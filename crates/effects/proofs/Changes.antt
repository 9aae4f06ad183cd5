-- A change of a stored task's screens, by what stands in the array: clear to b, lift and push. What is needed of the task
-- is that its storage holds 0 above the height.
use Prim.Native.Nat.{ℕ, zero, suc, ◌+◌, ◌-◌, ◌≤◌, ◌<◌, pred}
use mathlib.Core.Path.{◌≡◌, refl, sym, ◌∙◌, ap}
use mathlib.Core.Bool.{true}
use mathlib.Core.List.{List}
use native.Mathlib.Omega.{arith}
use lib.Dec.{leb, eqb}
use lib.ListN.{get_or, drop}
use borrow.Author.Tests.{leb-true, eqb-true}
use Rattle.std.specs.Prelude.{unwrap_or, IfSome, Option, None, Some}
use Rattle.model.specs.declared.Change.{Change}
use Rattle.model.specs.Lists.{all, find, to_front}
use Rattle.model.specs.Session.{stack, height, most_height}
use Rattle.model.specs.Effects.{changed}
use Rattle.model.proofs.Logic.{and_left}
use Rattle.model.proofs.ListLaws.{FoundAt, find_spec, to_front-zero}
use Rattle.session.specs.declared.Task.{Task}
use Rattle.session.specs.Stored.{view_task, hold_task, with_screens, blank_above, pushed}
use Rattle.session.proofs.Known.{Screens32}
use Rattle.session.proofs.StoredLaws.{hold-view_task}
use Rattle.session.proofs.TaskLaws.{view-height, view-screen, hold-cleared, hold-lifted, lifted, hold-pushed}
use Rattle.search.specs.Above.{above_of}
use Rattle.effects.specs.Fronted.{cleared_task, changed_task}
use Rattle.effects.specs.Rows.{closed_up, lowest}

-- ---- how many stand above, by the place

pub above-pred : (p : ℕ) → unwrap_or (above_of p) 0 ≡ pred p
above-pred zero = refl
above-pred (suc p) = refl

pub above-some : (p k : ℕ) → above_of p ≡ Some k → p ≡ suc k
above-some zero k e = cc
above-some (suc p) k e = let f : p ≡ k = cc in ap suc f

-- ----

pub blank-low : (t : Task) → blank_above t ≡ true → t.height ≤ most_height
unfolding blank_above
blank-low t e = leb-true t.height most_height (and_left (leb t.height most_height) (all (eqb 0) (drop t.height t.screens)) e)

module _ (t : Task) (l : Screens32 t) (e : blank_above t ≡ true) where
  pub blank-height : height (view_task t) ≡ t.height
  blank-height = view-height t (omega (arith, l, blank-low t e))

  -- a change by which the screens stay
  pub kept : (ys : List ℕ) → ys ≡ (view_task t).screens → hold_task (stack t.root ys) ≡ t
  unfolding view_task
  kept ys f = ap (λ (zs : List ℕ). hold_task (stack t.root zs)) f ∙ hold-view_task t l e

  -- ---- clear to the screen below k others, or to none

  pub clear_none : {above : Option ℕ} → above ≡ None → cleared_task above t ≡ t
  clear_none {above} none = kept (drop (unwrap_or above 0) (view_task t).screens) (rw none)

  pub clear-below : {above : Option ℕ} (k : ℕ) → above ≡ Some k → k < t.height → cleared_task above t ≡ lowest (t.height - k) t
  unfolding view_task
  clear-below k some low =
      let h = blank-height in
      rw some
      (hold-cleared t.root (t.height - k) k (view_task t).screens (omega arith)
      ∙ ap (lowest (t.height - k)) (hold-view_task t l e))

  -- ---- b

  module _ (b : ℕ) where
    abbrev xs : List ℕ
    xs = (view_task t).screens

    pub clear-is : {above : Option ℕ} → above ≡ above_of (find (eqb b) xs) → cleared_task above t ≡ changed_task b Change.Clear t
    unfolding changed
    clear-is f =
        ap (λ (o : Option ℕ). cleared_task o t) f
        ∙ ap (λ (k : ℕ). hold_task (stack t.root (drop k xs))) (above-pred (find (eqb b) xs))

    -- b does not stand in the task
    module _ {above : Option ℕ} (f : above ≡ above_of (find (eqb b) xs)) (none : above ≡ None) where
      pub lift-nothing : hold_task (stack t.root (changed (eqb b) b Change.Lift xs)) ≡ t
      unfolding changed
      lift-nothing = kept (to_front (pred (find (eqb b) xs)) xs) (rw (← above-pred (find (eqb b) xs), ← f, none) (to_front-zero xs))

    -- k screens stand above the topmost b
    module _ {above : Option ℕ} (f : above ≡ above_of (find (eqb b) xs)) (k : ℕ) (some : above ≡ Some k) where
      place : find (eqb b) xs ≡ suc k
      place = above-some (find (eqb b) xs) k (sym f ∙ some)

      found : FoundAt (eqb b) 0 xs k
      found = find_spec (eqb b) 0 xs k place

      pub above-inside : k < t.height
      above-inside = let h = blank-height in omega (arith, found.inside)

      pub lift-found : hold_task (stack t.root (changed (eqb b) b Change.Lift xs)) ≡ with_screens t (closed_up (t.height - 1 - k) k b t.screens)
      unfolding changed view_task
      lift-found =
          let h = blank-height in
          let o = above-inside in
          let low = blank-low t e in
          let m = t.height - 1 - k in
          let n : m + suc k ≡ t.height = omega arith in
          let j : t.height - suc m ≡ k = omega arith in
          let x : get_or t.screens m 0 ≡ b =
          sym (view-screen t (omega (arith, l)) m k n) ∙ sym (eqb-true b (get_or xs k 0) found.fits) in
          ap (λ (i : ℕ). hold_task (stack t.root (to_front (pred i) xs))) place
          ∙ hold-lifted t.root m k xs (omega arith) (omega arith)
          ∙ ap (λ (u : Task). lifted u m) (hold-view_task t l e)
          ∙ rw (j, x, n)

    pub inside-by : (above : Option ℕ) → above ≡ above_of (find (eqb b) xs) → IfSome above (λ k. k < t.height)
    inside-by None f = tt
    inside-by (Some k) f = above-inside f k refl

    pub above-low : (above : Option ℕ) → above ≡ above_of (find (eqb b) xs) → unwrap_or above 0 ≤ t.height
    above-low None f = omega arith
    above-low (Some k) f = let o = above-inside f k refl in omega arith

    pub push-is : height (view_task t) < most_height → hold_task (stack t.root (changed (eqb b) b Change.Push xs)) ≡ pushed t b
    unfolding changed view_task
    push-is h = hold-pushed t.root b xs h ∙ ap (λ (u : Task). pushed u b) (hold-view_task t l e)
