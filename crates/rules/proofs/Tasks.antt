-- The tasks of a stored session that is sound, as the rules read them: the front task, and the task found.
use Prim.Native.Nat.{ℕ, zero, suc, pred, ◌+◌, ◌*◌, ◌≤◌, ◌<◌}
use mathlib.Core.Path.{◌≡◌, refl, ap}
use mathlib.Core.List.{List}
use native.Mathlib.Nat.{not-suc-le-zero}
use native.Mathlib.Omega.{arith}
use lib.ListN.{length, get_or}
use Rattle.model.specs.declared.Flags.{Flags}
use Rattle.model.specs.declared.Found.{Found}
use Rattle.model.specs.declared.Group.{Group}
use Rattle.model.specs.Table.{size_of}
use Rattle.model.specs.Session.{State, Stack, no_stack, front_screen, count, top, most_tasks}
use Rattle.model.specs.Search.{seek_root, seek}
use Rattle.model.specs.Rules.{group_of, sought_by, choose_in, choose}
use Rattle.model.proofs.Logic.{All-at, if-elim}
use Rattle.model.proofs.Sound.{TaskSound}
use Rattle.model.proofs.SearchLaws.{found-cases, HasRoot, HasAffinity, FirstTask, FindsByRoot, Finds, seek_root-exact, seek-exact}
use Rattle.model.proofs.Tables.{good-shaped}
use Rattle.session.specs.declared.Task.{Task}
use Rattle.session.specs.declared.Session.{Session}
use Rattle.session.specs.Stored.{view, view_task, task_behind}
use Rattle.session.proofs.Known.{Sized}
use Rattle.session.proofs.StoredLaws.{view-count, view-edition, view-at, sized-at, stored-height, sound-view, sound-blank, blank-few}
use Rattle.session.proofs.TaskLaws.{view-height}
use Rattle.rules.specs.Startable.{Startable}
use Rattle.rules.specs.Shows.{index_of, Filled}
use Rattle.std.specs.Prelude.{Option, None}

-- the session v has the task t there: t is the task found, or the front task where none was found
abbrev pub Shows : State ℕ → Option Found → Task → Type 0
Shows v found t = get_or v.tasks (index_of found) no_stack ≡ view_task t

-- a stored session shows the task that it stores at the index of the task found
pub stored-shows : (c : Session) (t : Option Found) {i : ℕ} → i ≡ index_of t → i < c.n → Shows (view c) t (task_behind c i)
stored-shows c t e h = rw (← e) (view-at c _ h)

-- "A is the front screen"
pub front-screen : (c : Session) → 1 ≤ c.n → front_screen (view c) ≡ top (view_task (task_behind c 0))
front-screen c some = ap top (view-at c 0 some)

-- the index of a place
place-stands : (p n : ℕ) → 1 ≤ p → p ≤ n → pred p < n
place-stands zero n h l = absurd (not-suc-le-zero h)
place-stands (suc p) n h l = l

module _ (tb : List ℕ) (c : Session) (b : ℕ) (z : Sized c) (h : Startable tb c b) where
  row : (x : ℕ) → x < size_of tb → 2 + 2 * x < length tb
  row x l = omega (arith, (good-shaped tb h.ready.good).long)

  -- the table has the row of b
  pub own_row : 2 + 2 * b < length tb
  own_row = row b h.known

  few : c.n ≤ most_tasks
  few = blank-few c (sound-blank tb c h.ready.sound)

  pub counted : count (view c) ≡ c.n
  counted = view-count c z few

  -- ---- the task at an index

  module _ (i : ℕ) (l : i < c.n) where
    -- an index of a task is one of the storage
    pub index-inside : i < most_tasks
    index-inside = omega (arith, few)

    task-sound : TaskSound tb (view_task (task_behind c i))
    task-sound =
        let n = counted in
        rw (view-at c i l) at (All-at (TaskSound tb) (view c).tasks i no_stack (omega arith) (sound-view tb c h.ready.sound).each)

    -- it has 1 to 32 screens
    pub task-filled : Filled (task_behind c i)
    task-filled =
        let low = stored-height c z (sound-blank tb c h.ready.sound) i l in
        let s : length (task_behind c i).screens ≡ 32 = sized-at c z i index-inside in
        let e = view-height (task_behind c i) (omega arith) in
        let f = task-sound.filled in
        (omega arith, low)

    -- the table has the row of its top screen
    pub top-row : 2 + 2 * top (view_task (task_behind c i)) < length tb
    top-row = row _ (All-at (λ x. x < size_of tb) (view_task (task_behind c i)).screens 0 0 task-sound.filled task-sound.below)

  -- ---- the task found

  first-stands : (P : Stack ℕ → Type 0) (p : ℕ) → FirstTask P (view c).tasks p → pred p < c.n
  first-stands P p f = place-stands p c.n f.least (rw counted at f.most)

  root_stands : (t : Option Found) → FindsByRoot b (view c).tasks t → index_of t < c.n
  root_stands =
      found-cases (λ t. FindsByRoot b (view c).tasks t → index_of t < c.n) (λ s. h.some) (first-stands (HasRoot b)) (λ p s. absurd s)

  finds-stands : (t : Option Found) → Finds tb c.edition b (view c).tasks t → index_of t < c.n
  finds-stands =
      found-cases (λ t. Finds tb c.edition b (view c).tasks t → index_of t < c.n) (λ s. h.some) (λ p s. first-stands (HasRoot b) p s.1)
      (λ p s. first-stands (HasAffinity tb b) p s.1)

  seek-index : index_of (seek tb c.edition b (view c).tasks) < c.n
  seek-index = let t = seek tb c.edition b (view c).tasks in finds-stands t ((seek-exact tb c.edition b (view c).tasks t).0 refl)

  sought-index : (f : Flags) (g : Group) → index_of (sought_by tb (view c) b f g) < c.n
  unfolding sought_by
  sought-index f Group.Instance = let t = seek_root b (view c).tasks in root_stands t ((seek_root-exact b (view c).tasks t).0 refl)
  sought-index f Group.Task = rw (view-edition c) seek-index
  sought-index f Group.NotApart = h.some
  sought-index f Group.Apart = if-elim (λ t. index_of t < c.n) f.mtk None (seek tb (view c).edition b (view c).tasks) (λ _. h.some) (λ _. rw (view-edition c) seek-index)

  -- a task stands at the index of the task that is chosen, or that a group seeks
  pub index-stands : (f : Flags) (g : Group) {t : Option Found} → t ≡ sought_by tb (view c) b f g → {i : ℕ} → i ≡ index_of t → i < c.n
  index-stands f g e k = rw (k, e) (sought-index f g)

  pub choice-stands : (f : Flags) → index_of (choose tb (view c) b f).found < c.n
  unfolding choose choose_in
  choice-stands f = sought-index f (group_of tb (view c) b f)
