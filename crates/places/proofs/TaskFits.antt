-- Soundness of a task, in the terms in which the code tests it: the screens as they are stored, bottom first, and each
-- test of the code by itself.
use Prim.Native.Nat.{ℕ, ◌≤◌, ◌<◌}
use mathlib.Core.Path.{◌≡◌, refl, sym, ◌∙◌, ap}
use mathlib.Core.Bool.{Bool, true, false, not}
use mathlib.Core.List.{List, [], ◌∷◌, reverse, reverse-reverse}
use native.Mathlib.Omega.{arith}
use lib.Dec.{ltb}
use lib.ListN.{length, get_or, take}
use lib.Seq.{get_or-take, length-take-le, take-suc}
use Rattle.model.specs.Lists.{all, All}
use Rattle.model.specs.Table.{size_of, is_single_instance}
use Rattle.model.specs.Session.{most_height}
use Rattle.model.proofs.Logic.{Decides, and-decides, leb-decides, ltb-decides, false-decides, all-decides}
use Rattle.model.proofs.Sound.{TaskSound, Plain, task-decides}
use Rattle.model.proofs.Walks.{all-reverse, all_both}
use Rattle.session.specs.declared.Task.{Task}
use Rattle.session.specs.Stored.{view_task}
use Rattle.session.proofs.Known.{Screens32}
use Rattle.session.proofs.TaskLaws.{view-height}
use Rattle.places.specs.PlaceTests.{plain_screen, used_sound}

pub record TaskFits (tb : List ℕ) (t : Task) : Type 0 where
  pub known : t.root < size_of tb
  pub filled : 1 ≤ t.height
  pub low : t.height ≤ most_height
  pub lone : is_single_instance tb t.root ≡ true → (t.height ≡ 1) × (get_or t.screens 0 0 ≡ t.root)
  pub plain : is_single_instance tb t.root ≡ false → all (plain_screen tb) (take t.height t.screens) ≡ true

module _ (tb : List ℕ) where
  -- the two tests of a screen, over the screens in either order
  plain-decides : (xs : List ℕ) → Decides (all (plain_screen tb) xs) (All (λ x. x < size_of tb) (reverse xs) × All (Plain tb) (reverse xs))
  unfolding plain_screen
  plain-decides xs = rw (← all-reverse (plain_screen tb) xs, ← all_both (λ x. ltb x (size_of tb)) (λ x. not (is_single_instance tb x)) (reverse xs))
      (and-decides (all-decides (λ x. ltb-decides x (size_of tb)) (reverse xs)) (all-decides (λ x. false-decides (is_single_instance tb x)) (reverse xs)))

  module _ (t : Task) (size : Screens32 t) where
    abbrev xs : List ℕ
    xs = take t.height t.screens

    alone-in : t.height ≤ most_height → reverse xs ≡ t.root ∷ [] → (t.height ≡ 1) × (get_or t.screens 0 0 ≡ t.root)
    alone-in low e =
        let f : xs ≡ t.root ∷ [] = sym (reverse-reverse xs) ∙ ap reverse e in
        let h : t.height ≡ 1 = sym (length-take-le t.height t.screens (omega arith)) ∙ ap length f in
        (h, sym (get_or-take t.height t.screens 0 0 (omega arith)) ∙ ap (λ (l : List ℕ). get_or l 0 0) f)

    alone-out : (t.height ≡ 1) × (get_or t.screens 0 0 ≡ t.root) → reverse xs ≡ t.root ∷ []
    alone-out h =
        let f : take 1 t.screens ≡ get_or t.screens 0 0 ∷ [] = take-suc t.screens 0 0 (omega arith) in
        rw (h.0, f, h.1)

    fits_in : t.height ≤ most_height → TaskSound tb (view_task t) → TaskFits tb t
    unfolding view_task
    fits_in low k =
        record {
          known = k.known;
          filled = omega (arith, k.filled, view-height t (omega arith));
          low = low;
          lone = λ a. alone-in low (k.lone a);
          plain = λ a. (plain-decides xs).shows (k.below, k.plain a);
        }

    fits_out : TaskFits tb t → TaskSound tb (view_task t)
    unfolding view_task
    fits_out f =
        let l = view-height t (omega (arith, f.low)) in
        record {
          filled = omega (arith, f.filled);
          low = omega (arith, f.low);
          known = f.known;
          below = go (is_single_instance tb t.root) refl;
          lone = λ a. alone-out (f.lone a);
          plain = λ a. ((plain-decides xs).holds (f.plain a)).1;
        }
      where
        go : (b : Bool) → is_single_instance tb t.root ≡ b → All (λ x. x < size_of tb) (reverse xs)
        go true a = rw (alone-out (f.lone a)) (f.known, tt)
        go false a = ((plain-decides xs).holds (f.plain a)).0

    pub task-fits : Decides (used_sound tb t) (TaskFits tb t)
    unfolding used_sound
    task-fits =
        let d = and-decides (leb-decides t.height most_height) (task-decides tb (view_task t)) in
        record { holds = λ h. let r = d.holds h in fits_in r.0 r.1; shows = λ f. d.shows (f.low, fits_out f) }
