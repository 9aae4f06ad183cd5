-- What is read from an image, as it is stored.
use Rattle.std.specs.Prelude.{ℕ, ◌+◌, List, Option, Some, None, get_or, take, drop, if◌then◌else◌}
use Rattle.model.specs.Session.{Stack, stack, state}
use Rattle.model.specs.Image.{Reading, unreadable, read_as, image_readable, session_in}
use Rattle.session.specs.declared.Session.{Session}
use Rattle.session.specs.Stored.{hold}

-- "root, height, screens top first": the task of height h whose root stands behind `at` bytes
abbrev pub task_in : List ℕ → ℕ → ℕ → Stack ℕ
task_in bytes at h = stack (get_or bytes at 0) (take h (drop (at + 2) bytes))

-- the tasks that were read, with the main place m, the edition e and the No-History mark h
abbrev pub contents_of : Reading → ℕ → ℕ → ℕ → Option Session
contents_of unreadable m e h = None
contents_of (read_as ts) m e h = Some (hold (state ts m e h))

-- "the session read from the image", and none where 6 applies
unfoldable pub read_stored : List ℕ → Option Session
read_stored bytes = if image_readable bytes then Some (hold (session_in bytes)) else None
