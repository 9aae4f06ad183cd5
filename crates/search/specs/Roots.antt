-- The roots of the tasks, among which tasks are sought.
use Rattle.std.specs.Prelude.{ℕ, ◌≤◌, ◌<◌, ◌≡◌, List, length}
use Rattle.model.specs.Lists.{All}
use Rattle.model.specs.Table.{size_of, table_refusal}
use Rattle.model.specs.Session.{most_tasks}

-- what a search by affinity relies on: a good table, and screens of it as the roots and as b
pub record RootsFor (tb roots : List ℕ) (b : ℕ) : Type 0 where
  pub good : table_refusal tb ≡ 0
  pub few : length roots ≤ most_tasks
  pub each : All (λ x. x < size_of tb) roots
  pub known : b < size_of tb
