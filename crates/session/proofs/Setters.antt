-- A stored session or task with one field changed, the others kept: those that only proofs speak of.
use Prim.Native.Nat.{ℕ}
use mathlib.Core.List.{List}
use Rattle.session.specs.declared.Task.{Task}
use Rattle.session.specs.declared.Session.{Session}

-- a task with this root
abbrev pub with_root : Task → ℕ → Task
with_root t r = record { root = r; height = t.height; screens = t.screens }

-- a session with this n
abbrev pub with_count : Session → ℕ → Session
with_count c n = record { tasks = c.tasks; n = n; main = c.main; edition = c.edition; no_history = c.no_history }

-- a session with this main place
abbrev pub with_main : Session → ℕ → Session
with_main c m = record { tasks = c.tasks; n = c.n; main = m; edition = c.edition; no_history = c.no_history }

-- a session with this edition
abbrev pub with_edition : Session → ℕ → Session
with_edition c e = record { tasks = c.tasks; n = c.n; main = c.main; edition = e; no_history = c.no_history }

-- a session with this No-History mark
abbrev pub with_no_history : Session → ℕ → Session
with_no_history c h = record { tasks = c.tasks; n = c.n; main = c.main; edition = c.edition; no_history = h }

-- a session with these tasks
abbrev pub with_tasks : Session → List Task → Session
with_tasks c ts = record { tasks = ts; n = c.n; main = c.main; edition = c.edition; no_history = c.no_history }
