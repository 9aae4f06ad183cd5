-- Plans: of a call that changes nothing, and of what comes in front and then loses the marked screen, which Back does too.
use Rattle.std.specs.Prelude.{ℕ, zero, suc, ◌+◌, ◌-◌, ◌<◌, ◌≡◌, Bool, true, false, not, ◌&&◌, eqb, ltb, leb, if◌then◌else◌, Option, None, Some}
use Rattle.model.specs.declared.Position.{Position}
use Rattle.model.specs.Lists.{omit}
use Rattle.model.specs.Session.{stack, most_tasks, edition_kept}
use Rattle.model.specs.Effects.{main_without}
use Rattle.model.specs.Marks.{closed_at, stands_at}
use Rattle.session.specs.declared.Task.{Task}
use Rattle.session.specs.declared.Session.{Session}
use Rattle.session.specs.Stored.{view_task, hold_task, blank_above, task_behind}
use Rattle.plans.specs.declared.Moved.{Moved}
use Rattle.plans.specs.declared.Plan.{Plan}

-- ---- nothing changes

abbrev pub still_of : Session → Plan
still_of s =
    record {
      front = task_behind s 0;
      main = s.main;
      shift = 0;
      n = s.n;
      gone = most_tasks;
      pops = false;
      closed = 0;
      edition = s.edition;
      no_history = s.no_history;
    }

-- ---- the three plans, but for the screens that close and the No-History mark: no task goes, the second one pops, the task behind g
-- others goes

abbrev pub keeps : Task → ℕ → ℕ → ℕ → ℕ → Plan
keeps t k n m e =
    record { front = t; main = m; shift = k; n = n; gone = most_tasks; pops = false; closed = 0; edition = e; no_history = 0 }

abbrev pub pops : Task → ℕ → ℕ → ℕ → ℕ → Plan
pops t k n m e =
    record { front = t; main = m; shift = k; n = n; gone = most_tasks; pops = true; closed = 0; edition = e; no_history = 0 }

abbrev pub loses : ℕ → Task → ℕ → ℕ → ℕ → ℕ → Plan
loses g t k n m e =
    record {
      front = t;
      main = main_without (suc g) m;
      shift = k;
      n = n - 1;
      gone = g;
      pops = false;
      closed = 0;
      edition = edition_kept (n - 1) e;
      no_history = 0;
    }

-- ---- closing the marked screen

-- a task without the screen below i others
abbrev pub without : ℕ → Task → Task
without i t = hold_task (stack t.root (omit i (view_task t).screens))

-- t comes in front and k tasks go back, n, m and the edition e are so, and the marked screen closes. The tests tell whether t, and
-- the task behind it, has one screen only. Here it stands behind so many tasks and below i screens
abbrev pub closes_there : ℕ → ℕ → Bool → Bool → Task → ℕ → ℕ → ℕ → ℕ → Plan
closes_there zero i true one' t k n m e = loses 0 t k n m e
closes_there zero i false one' t k n m e = keeps (without i t) k n m e
closes_there (suc j) i one true t k n m e = loses 1 t k n m e
closes_there (suc j) i one false t k n m e = pops t k n m e

abbrev pub closes : Option Position → Bool → Bool → Task → ℕ → ℕ → ℕ → ℕ → Plan
closes None one one' t k n m e = keeps t k n m e
closes (Some p) one one' t k n m e = closes_there p.behind p.below one one' t k n m e

-- a plan by which so many screens close
abbrev pub plan_with_closed : ℕ → Plan → Plan
plan_with_closed x p =
    record {
      front = p.front;
      main = p.main;
      shift = p.shift;
      n = p.n;
      gone = p.gone;
      pops = p.pops;
      closed = x;
      edition = p.edition;
      no_history = p.no_history;
    }

-- a plan that leaves this No-History mark
abbrev pub plan_with_no_history : ℕ → Plan → Plan
plan_with_no_history h p =
    record {
      front = p.front;
      main = p.main;
      shift = p.shift;
      n = p.n;
      gone = p.gone;
      pops = p.pops;
      closed = p.closed;
      edition = p.edition;
      no_history = h;
    }

-- the task t came in front, the rest moved so, and then the marked screen closes
abbrev pub closes_with : Option Position → Task → Moved → Plan
closes_with mark t v =
    plan_with_closed (v.closed + closed_at mark)
    (closes mark (leb t.height 1) (leb v.second 1) t v.shift v.n v.main v.edition)

-- a plan field by field as code makes it; g is the field gone
abbrev pub gone_by : Option Position → Bool → Bool → ℕ
gone_by None one one' = most_tasks
gone_by (Some p) one one' = if eqb p.behind 0 then (if one then 0 else most_tasks) else (if one' then 1 else most_tasks)

abbrev pub front_by : Option Position → ℕ → Task → Task
front_by None g t = t
front_by (Some p) g t = if eqb p.behind 0 && eqb g most_tasks then without p.below t else t

abbrev pub pops_by : Option Position → ℕ → Bool
pops_by None g = false
pops_by (Some p) g = not (eqb p.behind 0) && eqb g most_tasks

abbrev pub count_by : ℕ → ℕ → ℕ
count_by g n = if ltb g most_tasks then n - 1 else n

abbrev pub main_by : ℕ → ℕ → ℕ
main_by g m = if ltb g most_tasks then main_without (suc g) m else m

-- what closing it relies on: it stands in the front task, where it is marked there
abbrev pub Opens : Option Position → Task → Type 0
Opens mark t = (i : ℕ) → mark ≡ stands_at 0 i → (blank_above t ≡ true) × (i < t.height)
