-- The screens standing in a stored session, summed task by task.
use Prim.Native.Nat.{ℕ, ◌+◌, ◌*◌, ◌≤◌, ◌<◌}
use mathlib.Core.Path.{◌≡◌, ◌∙◌, ap}
use mathlib.Core.Bool.{true}
use mathlib.Core.List.{◌∷◌}
use native.Mathlib.Numerals.{add-one}
use native.Mathlib.Omega.{arith}
use lib.ListN.{length, get_or, drop, drop_of_length-le}
use lib.Seq.{drop-cons}
use Rattle.model.specs.Lists.{sum_of}
use Rattle.model.specs.Session.{Stack, no_stack, height, screens_in}
use Rattle.session.specs.declared.Session.{Session}
use Rattle.session.specs.Stored.{view, storage_blank, task_behind}
use Rattle.session.proofs.Known.{Sized}
use Rattle.session.proofs.StoredLaws.{view-at, view-count, blank-few, stored-height, sized-at}
use Rattle.session.proofs.TaskLaws.{view-height}

-- the first i tasks were summed
pub record Summed (s : Session) (total i : ℕ) : Type 0 where
  pub inside : i ≤ s.n
  pub sum : total + sum_of height (drop i (view s).tasks) ≡ sum_of height (view s).tasks
  pub low : total ≤ 32 * i

module _ (s : Session) (z : Sized s) (e : storage_blank s ≡ true) where
  pub summed-none : Summed s 0 0
  summed-none = record { inside = omega arith; sum = omega arith; low = omega arith }

  counted : length (view s).tasks ≡ s.n
  counted = view-count s z (blank-few s e)

  pub summed-more : (total i : ℕ) → Summed s total i → i < s.n → Summed s (total + (task_behind s i).height) (i + 1)
  summed-more total i k l =
      let t = task_behind s i in
      let few : t.height ≤ 32 = stored-height s z e i l in
      let long : length t.screens ≡ 32 = sized-at s z i (omega (arith, blank-few s e)) in
      let h : height (get_or (view s).tasks i no_stack) ≡ t.height = ap (λ (u : Stack ℕ). height u) (view-at s i l) ∙ view-height t (omega arith) in
      let cut : drop i (view s).tasks ≡ get_or (view s).tasks i no_stack ∷ drop (i + 1) (view s).tasks =
      rw (add-one i) (drop-cons (view s).tasks i no_stack (omega (arith, counted))) in
      let f = rw cut at k.sum in
      record { inside = omega arith; sum = omega (arith, f, h); low = omega (arith, k.low, few) }

  pub summed-all : (total i : ℕ) → Summed s total i → s.n ≤ i → total ≡ screens_in (view s).tasks
  unfolding screens_in
  summed-all total i k l =
      let f = rw (drop_of_length-le (view s).tasks {i = i} (omega (arith, counted))) at k.sum in omega (arith, f)
