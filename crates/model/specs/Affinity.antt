-- Document 02, request 3, "Affinity 0 is no affinity": what it says of an accepted start, by the reason that is told of it.
use Rattle.std.specs.Prelude.{ℕ, ◌≤◌, ◌≡◌, ◌↔◌, Bool, true, ◌||◌, List, ltb}
use Rattle.model.specs.declared.Reason.{Reason}
use Rattle.model.specs.Lists.{find}
use Rattle.model.specs.Table.{affinity_of}
use Rattle.model.specs.Session.{State, task_at}
use Rattle.model.specs.Search.{has_root, seeks_by_root}

-- each rule but R7 to R11 seeks a task
abbrev pub seeks_task : ℕ → Bool
seeks_task n = ltb n 7 || ltb 11 n

-- r is the reason of a start of the screen b in the session s
pub record AffinityZero (tb : List ℕ) (s : State ℕ) (b : ℕ) (r : Reason) : Type 0 where
  -- "a screen of affinity 0 is never found by affinity"
  pub screen : affinity_of tb b ≡ 0 → r.found ≡ 2 → ⊥
  -- "nor is a task whose root has affinity 0"
  pub task : r.found ≡ 2 → affinity_of tb (task_at s.tasks r.place).root ≡ 0 → ⊥
  -- "By root nothing changes": where a task is sought, by root too, and the root of one is B, by root it is found, whatever the
  -- affinities; and it is "the first task from the front whose root is B" (01)
  pub root : seeks_task r.rule ≡ true → seeks_by_root tb s.edition b ≡ true → (r.found ≡ 1) ↔ (1 ≤ find (has_root b) s.tasks)
  pub first : r.found ≡ 1 → r.place ≡ find (has_root b) s.tasks
