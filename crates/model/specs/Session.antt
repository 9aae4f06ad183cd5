-- Document 01, "Session": tasks, limits, soundness; and document 02, request 4: the edition, and request 7: the No-History mark.
-- A task is here a `Stack` and a session a `State`; `Task` and `Session` are the structs that store them.
-- What stands in a task may be of any kind A: screens are numbers, and a finishing start puts marked ones there.
use Rattle.std.specs.Prelude.{ℕ, zero, suc, pred, Bool, false, not, ◌&&◌, ◌||◌, List, [], ◌∷◌, leb, ltb, eqb, length, get_or, if◌then◌else◌}
use Rattle.model.specs.Lists.{all, pairwise, sum_of}
use Rattle.model.specs.Table.{size_of, main_screen, is_single_instance, roots_once}

-- "The limits belong to the session: 16 tasks, 32 screens in a task."
abbrev pub most_tasks : ℕ
most_tasks = 16

abbrev pub most_height : ℕ
most_height = 32

-- "A task has a root (the screen that created it; it never changes) and screens, top first."
pub record Stack (A : Type 0) : Type 0 where
  pub root : ℕ
  pub screens : List A

-- "A session is a list of n tasks, front first, and a main place m: the place (from 1) of the task made by launch, or
-- 0 if that task is gone." The main place is 01's own term. "Launch names" an edition; "the session keeps it" (02, request 4).
-- "The session gains one mark: the front screen was pushed or made new by a start, plain or finishing, with this flag" (02,
-- request 7): 1, or 0. The mark of a finishing start is another.
pub record State (A : Type 0) : Type 0 where
  pub tasks : List (Stack A)
  pub main : ℕ
  pub edition : ℕ
  pub no_history : ℕ

module _ {A : Type 0} where
  abbrev pub stack : ℕ → List A → Stack A
  stack r xs = record { root = r; screens = xs }

  abbrev pub state : List (Stack A) → ℕ → ℕ → ℕ → State A
  state ts m e h = record { tasks = ts; main = m; edition = e; no_history = h }

  -- ---- one field changed, the others kept

  -- a task with its screens changed; its root "never changes"
  abbrev pub on_screens : (List A → List A) → Stack A → Stack A
  on_screens f t = record { root = t.root; screens = f t.screens }

  -- a session with its tasks changed
  abbrev pub on_tasks : (List (Stack A) → List (Stack A)) → State A → State A
  on_tasks f s = record { tasks = f s.tasks; main = s.main; edition = s.edition; no_history = s.no_history }

  -- a session with its main place changed
  abbrev pub on_main : (ℕ → ℕ) → State A → State A
  on_main f s = record { tasks = s.tasks; main = f s.main; edition = s.edition; no_history = s.no_history }

  -- a session with its edition changed
  abbrev pub on_edition : (ℕ → ℕ) → State A → State A
  on_edition f s = record { tasks = s.tasks; main = s.main; edition = f s.edition; no_history = s.no_history }

  -- a session with this No-History mark
  abbrev pub set_no_history : ℕ → State A → State A
  set_no_history h s = record { tasks = s.tasks; main = s.main; edition = s.edition; no_history = h }

  -- ---- what is read of a task and of a session

  -- what is read where no task stands
  abbrev pub no_stack : Stack A
  no_stack = stack 0 []

  -- the task at a place
  abbrev pub task_at : List (Stack A) → ℕ → Stack A
  task_at ts p = get_or ts (pred p) no_stack

  abbrev pub front : State A → Stack A
  front s = task_at s.tasks 1

  abbrev pub height : Stack A → ℕ
  height t = length t.screens

  -- n
  abbrev pub count : State A → ℕ
  count s = length s.tasks

abbrev pub top : Stack ℕ → ℕ
top t = get_or t.screens 0 0

-- "A is the front screen."
abbrev pub front_screen : State ℕ → ℕ
front_screen s = top (front s)

-- how many screens stand in these tasks
unfoldable pub screens_in : List (Stack ℕ) → ℕ
screens_in ts = sum_of height ts

-- ---- the edition

-- "three editions are kept: 6, 7 and 8"
unfoldable pub is_edition : ℕ → Bool
is_edition e = leb 6 e && leb e 8

-- the edition of a session that had e, where n tasks stand: "the session keeps it until empty, when it is 8 again"
abbrev pub edition_kept : ℕ → ℕ → ℕ
edition_kept zero e = 8
edition_kept (suc n) e = e

-- ---- soundness

-- "Fresh means empty and sound: n = 0, m = 0." So its edition is 8, and it has no mark.
abbrev pub fresh : State ℕ
fresh = state [] 0 8 0

-- the edition of a sound session in which n tasks stand
unfoldable pub edition_sound : ℕ → ℕ → Bool
edition_sound n e = is_edition e && eqb (edition_kept n e) e

-- the No-History mark of a sound session in which n tasks stand: 0 or 1, and 0 where none does
unfoldable pub no_history_sound : ℕ → ℕ → Bool
no_history_sound n h = leb h 1 && leb h n

-- that screen alone
abbrev pub is_alone : ℕ → List ℕ → Bool
is_alone r [] = false
is_alone r (x ∷ []) = eqb x r
is_alone r (x ∷ y ∷ ys) = false

module _ (tb : List ℕ) where
  -- "limits hold; .. every height is at least 1"
  unfoldable pub height_fits : Stack ℕ → Bool
  height_fits t = leb 1 (height t) && leb (height t) most_height

  -- "every screen and root is below N"
  unfoldable pub screens_known : Stack ℕ → Bool
  screens_known t = ltb t.root (size_of tb) && all (λ x. ltb x (size_of tb)) t.screens

  -- "a task with a single-instance root is that screen alone; such a screen stands nowhere else"
  unfoldable pub instance_alone : Stack ℕ → Bool
  instance_alone t =
      if is_single_instance tb t.root then is_alone t.root t.screens
      else all (λ x. not (is_single_instance tb x)) t.screens

  unfoldable pub task_sound : Stack ℕ → Bool
  task_sound t = height_fits t && (screens_known t && instance_alone t)

  -- "no single-task or single-instance screen is root of two tasks"
  unfoldable pub roots_differ : Stack ℕ → Stack ℕ → Bool
  roots_differ t u = not (roots_once tb t.root && eqb t.root u.root)

  -- "m ≤ n; and if m ≥ 1 its root is the main screen"
  unfoldable pub main_sound : List (Stack ℕ) → ℕ → Bool
  main_sound ts m = leb m (length ts) && (eqb m 0 || eqb (task_at ts m).root (main_screen tb))

  -- "A session is sound under a table when .."; what is said of storage is said where sessions are stored. An empty session with
  -- another edition than 8, "or with none of the three, gives 20" (02, request 4); and so does "a mark on an empty" session, or a
  -- number that is no mark (02, request 7)
  unfoldable pub sound : State ℕ → Bool
  sound s =
      ((leb (count s) most_tasks && all task_sound s.tasks)
      && (pairwise roots_differ s.tasks && main_sound s.tasks s.main))
      && (edition_sound (count s) s.edition && no_history_sound (count s) s.no_history)
