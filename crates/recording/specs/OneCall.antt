-- One call of a list that is given as bytes, made on a stored session; and how many bytes a record takes.
use Rattle.std.specs.Prelude.{ℕ, ◌+◌, min, List, [], length, if◌then◌else◌}
use Rattle.session.specs.declared.Session.{Session}
use Rattle.calls.specs.declared.Reply.{Reply}
use Rattle.recording.specs.CallBytes.{first_image, first_call, first_whole}
use Rattle.recording.specs.Counts.{reply_to}

-- the call of the first record, a restore with the image behind it; one that is cut or of an unknown kind is refused with 9
unfoldable pub called_stored : List ℕ → Session → List ℕ → Reply
called_stored tb c bytes = reply_to tb c (if first_whole bytes then first_call bytes else [])

-- the bytes that it takes: all that are left where it is cut
unfoldable pub call_length : List ℕ → ℕ
call_length bytes = if first_whole bytes then 6 + first_image bytes else length bytes

-- the same of a record that the player reads
abbrev pub record_length : List ℕ → ℕ
record_length bytes = min 6 (length bytes)
