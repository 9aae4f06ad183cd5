-- A recording: "a table, then records", and after a record of kind 6 an image.
use Rattle.std.specs.Prelude.{ℕ, List, length}
use Rattle.model.specs.Session.{State}
use Rattle.model.specs.Player.{table_in, record_bytes}
use Rattle.recording.specs.Replay.{ending}
use Rattle.recording.specs.Ignored.{ignored_from}

-- the session after a recording's calls
abbrev pub ending_of : List ℕ → State ℕ
ending_of recording = ending (table_in recording) (record_bytes recording)

-- the places in a recording of its records that are no call
abbrev pub ignored_in : List ℕ → List ℕ
ignored_in recording = ignored_from (length (table_in recording)) (record_bytes recording)
