-- Sessions as they are stored: 16 tasks of 32 screens, bottom first, 0 beyond. And what they stand for.
use Rattle.std.specs.Prelude.{ℕ, ◌+◌, ◌-◌, ◌≡◌, Bool, true, ◌&&◌, List, [], ◌++◌, map, reverse, leb, eqb, length, get_or, set, take, drop, replicate}
use Rattle.model.specs.Lists.{all}
use Rattle.model.specs.Table.{table_refusal}
use Rattle.model.specs.Session.{Stack, State, stack, state, most_tasks, most_height, sound}
use Rattle.session.specs.declared.Task.{Task}
use Rattle.session.specs.declared.Session.{Session}

-- storage for a task, and for a session, in which nothing stands
abbrev pub blank_task : Task
blank_task = record { root = 0; height = 0; screens = replicate most_height 0 }

abbrev pub fresh_session : Session
fresh_session = record { tasks = replicate most_tasks blank_task; n = 0; main = 0; edition = 8; no_history = 0 }

-- what the language says that code reads past the end of an array of tasks
abbrev pub no_task : Task
no_task = record { root = 0; height = 0; screens = [] }

-- the task behind i others
abbrev pub task_behind : Session → ℕ → Task
task_behind c i = get_or c.tasks i no_task

-- ---- one field changed, the others kept

-- a task with this height
abbrev pub with_height : Task → ℕ → Task
with_height t h = record { root = t.root; height = h; screens = t.screens }

-- a task with these screens
abbrev pub with_screens : Task → List ℕ → Task
with_screens t xs = record { root = t.root; height = t.height; screens = xs }

-- ---- what is stored

-- the task that is stored
unfoldable pub view_task : Task → Stack ℕ
view_task t = stack t.root (reverse (take t.height t.screens))

-- the session that is stored
unfoldable pub view : Session → State ℕ
view c = state (map view_task (take c.n c.tasks)) c.main c.edition c.no_history

-- the root of each task
abbrev pub root : Task → ℕ
root t = t.root

abbrev pub roots_of : List Task → List ℕ
roots_of ts = map root ts

-- ---- how it is stored

-- filled up to n with z
module _ {A : Type 0} (n : ℕ) (z : A) where
  unfoldable pub pad : List A → List A
  pad xs = xs ++ replicate (n - length xs) z

unfoldable pub hold_task : Stack ℕ → Task
hold_task t = record { root = t.root; height = length t.screens; screens = pad most_height 0 (reverse t.screens) }

unfoldable pub hold : State ℕ → Session
hold s =
    record {
      tasks = pad most_tasks blank_task (map hold_task s.tasks);
      n = length s.tasks;
      main = s.main;
      edition = s.edition;
      no_history = s.no_history;
    }

-- ---- push and pop

abbrev pub pushed : Task → ℕ → Task
pushed t b = with_height (with_screens t (set t.screens t.height b)) (t.height + 1)

abbrev pub popped : Task → Task
popped t = with_height (with_screens t (set t.screens (t.height - 1) 0)) (t.height - 1)

-- ---- soundness

-- "Storage beyond n tasks or beyond a task's height holds 0." Roots and heights beyond n tasks are storage too.
unfoldable pub blank_above : Task → Bool
blank_above t = leb t.height most_height && all (eqb 0) (drop t.height t.screens)

unfoldable pub is_blank : Task → Bool
is_blank t = eqb t.root 0 && (eqb t.height 0 && all (eqb 0) t.screens)

unfoldable pub storage_blank : Session → Bool
storage_blank c =
    leb c.n most_tasks && (all blank_above (take c.n c.tasks) && all is_blank (drop c.n c.tasks))

-- "A session is sound under a table when: limits hold; the storage just named holds 0; .."
unfoldable pub sound_stored : List ℕ → Session → Bool
sound_stored tb c = storage_blank c && sound tb (view c)

-- a table that is not refused, and a session that is sound under it: what the layers below the calls may rely on
pub record Ready (tb : List ℕ) (c : Session) : Type 0 where
  pub good : table_refusal tb ≡ 0
  pub sound : sound_stored tb c ≡ true
