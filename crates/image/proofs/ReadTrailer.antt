-- The trailer's bytes by their places in the image, and what is read where n is above 16 or not.
use Prim.Native.Nat.{ℕ, ◌+◌, ◌-◌, ◌*◌, ◌/◌, ◌%◌, ◌≤◌, ◌<◌}
use mathlib.Core.Path.{◌≡◌, refl}
use mathlib.Core.Bool.{true, false, ◌&&◌}
use mathlib.Core.List.{List}
use native.Mathlib.Nat.{add-zero}
use lib.Dec.{leb, eqb}
use lib.ListN.{length, get_or}
use lib.Seq.{get_or-drop}
use borrow.Author.Tests.{leb-true, le-leb, lt-leb}
use Rattle.std.specs.Prelude.{Some, None, if◌then◌else◌}
use Rattle.model.specs.Session.{state, most_tasks, is_edition}
use Rattle.model.specs.Image.{body_in, trailer_in, image_shaped, Reading, unreadable, read_as, read_tasks, is_readable, tasks_read, image_readable, session_in}
use Rattle.model.proofs.Logic.{and_left}
use Rattle.session.specs.Stored.{hold}
use Rattle.image.specs.Readings.{contents_of, read_stored}

pub shaped-short : (bytes : List ℕ) → length bytes < 6 → image_shaped bytes ≡ false
unfolding image_shaped
shaped-short bytes h = rw (lt-leb 6 (length bytes) h)

module _ (bytes : List ℕ) where
  abbrev end : ℕ
  end = length bytes - 6

  -- a byte of the trailer stands that many bytes behind the body
  trailer-at : (i : ℕ) → get_or (trailer_in bytes) i 0 ≡ get_or bytes (end + i) 0
  trailer-at i = get_or-drop end bytes i 0

  pub shaped-long : 6 ≤ length bytes
      → image_shaped bytes
      ≡ ((is_edition (get_or bytes (end + 4) 0) && eqb (get_or bytes (end + 5) 0) 0x42)
      && eqb (length bytes) (256 * get_or bytes end 0 + get_or bytes (end + 1) 0 + 6))
  unfolding image_shaped
  shaped-long h = rw (le-leb 6 (length bytes) h, trailer-at 0, trailer-at 1, trailer-at 4, trailer-at 5, add-zero end)

-- ---- what is read

pub shaped-six : (bytes : List ℕ) → image_shaped bytes ≡ true → 6 ≤ length bytes
unfolding image_shaped
shaped-six bytes e = leb-true 6 (length bytes) (and_left (leb 6 (length bytes)) _ e)

module _ (bytes : List ℕ) where
  pub read-many : most_tasks < get_or bytes (end bytes + 2) 0 → None ≡ read_stored bytes
  unfolding read_stored image_readable
  read-many h = rw (trailer-at bytes 2, lt-leb (get_or bytes (end bytes + 2) 0) most_tasks h)

  pub read-few : get_or bytes (end bytes + 2) 0 ≤ most_tasks
      → contents_of (read_tasks (get_or bytes (end bytes + 2) 0) (body_in bytes)) (get_or bytes (end bytes + 3) 0 % 128) (get_or bytes (end bytes + 4) 0)
      (get_or bytes (end bytes + 3) 0 / 128)
      ≡ read_stored bytes
  unfolding read_stored image_readable session_in
  read-few h =
      rw (trailer-at bytes 2, trailer-at bytes 3, trailer-at bytes 4, le-leb (get_or bytes (end bytes + 2) 0) most_tasks h)
      (go (read_tasks (get_or bytes (end bytes + 2) 0) (body_in bytes)) (get_or bytes (end bytes + 3) 0 % 128) (get_or bytes (end bytes + 4) 0)
      (get_or bytes (end bytes + 3) 0 / 128))
    where
      go : (q : Reading) (m e h : ℕ)
          → contents_of q m e h ≡ (if is_readable q then Some (hold (state (tasks_read q) m e h)) else None)
      go unreadable m e h = refl
      go (read_as ts) m e h = refl
