-- A session with other tasks, and when two sessions are the same.
use Prim.Native.Nat.{ℕ}
use mathlib.Core.Path.{◌≡◌}
use mathlib.Core.List.{List}
use Rattle.model.specs.Session.{Stack, State, state, on_tasks}

-- the session with these tasks
abbrev pub with_tasks : {A : Type 0} → State A → List (Stack A) → State A
with_tasks s ts = on_tasks (λ us. ts) s

-- two sessions are the same where each field is
pub same-fields : {s t : State ℕ} → s.tasks ≡ t.tasks → s.main ≡ t.main → s.edition ≡ t.edition
    → s.no_history ≡ t.no_history → s ≡ t
same-fields e f g h = λ i. state (e i) (f i) (g i) (h i)
