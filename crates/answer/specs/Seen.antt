-- An answer by the front task and the numbers, and what a look relies on.
use Rattle.std.specs.Prelude.{ℕ, zero, suc, ◌≤◌, get_or}
use Rattle.model.specs.declared.Answer.{Answer}
use Rattle.model.specs.Session.{top, most_tasks, most_height}
use Rattle.session.specs.declared.Task.{Task}
use Rattle.session.specs.declared.Session.{Session}
use Rattle.session.specs.Stored.{view_task, no_task}

-- the answer of a call that closed x screens, where n tasks stand after it, t is the front one, m the main place, e the
-- edition and h the No-History mark
abbrev pub answer_of : Task → ℕ → ℕ → ℕ → ℕ → ℕ → Answer
answer_of t zero m x e h =
    record { refusal = 0; screen = 0; root = 0; height = 0; tasks = 0; main = m; closed = x; edition = e; no_history = h }
answer_of t (suc n) m x e h =
    record {
      refusal = 0;
      screen = top (view_task t);
      root = t.root;
      height = t.height;
      tasks = suc n;
      main = m;
      closed = x;
      edition = e;
      no_history = h;
    }

-- there are at most 16 tasks, and the front task, where there is one, has 1 to 32 screens
pub record Seen (c : Session) : Type 0 where
  pub few : c.n ≤ most_tasks
  pub filled : 1 ≤ c.n → 1 ≤ (get_or c.tasks 0 no_task).height
  pub low : 1 ≤ c.n → (get_or c.tasks 0 no_task).height ≤ most_height
