-- A change of a session's list of tasks is a change of the stored array: any change, a task changed, a task moved to the
-- front.
use Prim.Native.Nat.{ℕ, ◌<◌}
use mathlib.Core.Path.{◌≡◌, ◌∙◌, ap}
use mathlib.Core.List.{List, map}
use native.Mathlib.Omega.{arith}
use lib.ListN.{length, set, length-map, length-set}
use Rattle.model.specs.Lists.{to_front}
use Rattle.model.specs.Session.{Stack, State, on_tasks, count, most_tasks}
use Rattle.model.proofs.ListLaws.{map-set, map-to_front, to_front-length}
use Rattle.session.specs.declared.Task.{Task}
use Rattle.session.specs.Stored.{blank_task, hold_task, hold, pad}
use Rattle.session.proofs.Setters.{with_tasks, with_count}
use Rattle.session.proofs.Padding.{pad-set, pad-to_front}

module _ (v : State ℕ) where
  abbrev ts : List (Stack ℕ)
  ts = v.tasks

  inside : (k : ℕ) → k < count v → k < length (map hold_task ts)
  inside k h = omega (arith, length-map ts hold_task)

  -- another row of tasks
  pub hold_row : (f : List (Stack ℕ) → List (Stack ℕ)) {n : ℕ} → length (f ts) ≡ n → {us : List Task} → pad most_tasks blank_task (map hold_task (f ts)) ≡ us
      → hold (on_tasks f v) ≡ with_count (with_tasks (hold v) us) n
  unfolding hold
  hold_row f n s = λ i. with_count (with_tasks (hold v) (s i)) (n i)

  -- of as many
  pub hold-set : (k : ℕ) (t : Stack ℕ) → k < count v → hold (on_tasks (λ us. set us k t) v) ≡ with_tasks (hold v) (set (hold v).tasks k (hold_task t))
  unfolding hold
  hold-set k t h =
      hold_row (λ us. set us k t) (length-set ts k t)
      (ap (pad most_tasks blank_task) (map-set hold_task k t ts) ∙ pad-set most_tasks blank_task k (hold_task t) (map hold_task ts) (inside k h))

  pub hold-to_front : (k : ℕ) → k < count v → hold (on_tasks (to_front k) v) ≡ with_tasks (hold v) (to_front k (hold v).tasks)
  unfolding hold
  hold-to_front k h =
      hold_row (to_front k) (to_front-length k ts)
      (ap (pad most_tasks blank_task) (map-to_front hold_task k ts) ∙ pad-to_front most_tasks blank_task k (map hold_task ts) (inside k h))
