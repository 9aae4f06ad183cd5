-- Soundness of a place of what is stored, cut into the tests that the code makes.
use Rattle.std.specs.Prelude.{ℕ, Bool, not, ◌&&◌, List, sum, leb, ltb, eqb, take, if◌then◌else◌}
use Rattle.model.specs.Lists.{all}
use Rattle.model.specs.Table.{size_of, is_single_instance}
use Rattle.model.specs.Session.{most_height, task_sound}
use Rattle.session.specs.declared.Task.{Task}
use Rattle.session.specs.Stored.{view_task}

-- the sum
abbrev pub total : List ℕ → ℕ
total = sum

-- above the sum of 32 bytes
abbrev pub no_sum : ℕ
no_sum = 0x10000

-- above the number of every screen
abbrev pub no_root : ℕ
no_root = 255

-- a root, and not that number
unfoldable pub is_root : ℕ → Bool
is_root x = not (eqb x no_root)

-- the root, where the two sums are one
abbrev pub root_or : ℕ → ℕ → ℕ → ℕ
root_or sum all root = if eqb sum all then root else no_root

module _ (tb : List ℕ) where
  -- a screen that may stand in a task whose root is not single-instance
  unfoldable pub plain_screen : ℕ → Bool
  plain_screen x = ltb x (size_of tb) && not (is_single_instance tb x)

  -- the sum of screens that may stand there, or a number that no sum is
  unfoldable pub plain_sum : List ℕ → ℕ
  plain_sum xs = if all plain_screen xs then total xs else no_sum

  -- the task is sound, whatever stands beyond its height
  unfoldable pub used_sound : Task → Bool
  used_sound t = leb t.height most_height && task_sound tb (view_task t)

  -- the sum of the screens of such a task, or a number that no sum is
  unfoldable pub used_sum : Task → ℕ
  used_sum t = if used_sound t then total (take t.height t.screens) else no_sum

  -- what the screens of a place add up to where it is sound, or a number that no sum is: a task stands there, or none
  unfoldable pub expected_sum : Bool → Task → ℕ
  expected_sum used t = if used then used_sum t else (if eqb t.root 0 && eqb t.height 0 then 0 else no_sum)

  -- the root at a place, where that is sound
  unfoldable pub place_root : Bool → Task → ℕ
  place_root used t = root_or (expected_sum used t) (total t.screens) t.root
