-- The one task of a session that the rule of a start and the check for room read.
use Rattle.std.specs.Prelude.{ℕ, pred, ◌≤◌, Option}
use Rattle.model.specs.declared.Found.{Found}
use Rattle.model.specs.Session.{most_height}
use Rattle.model.specs.Search.{place_of}
use Rattle.session.specs.declared.Task.{Task}

-- the index of the task found: how many tasks stand before it; 0 where none was found: then the front task is meant
abbrev pub index_of : Option Found → ℕ
index_of found = pred (place_of found)

-- a task of 1 to 32 screens, as a sound session stores it
abbrev pub Filled : Task → Type 0
Filled t = (1 ≤ t.height) × (t.height ≤ most_height)
