-- What a block leaves: of the buffer it is lent to, the first bytes, as many as were counted, are the block, and all of it is
-- played. That those bytes are what the file has, no contract can say.
use Rattle.std.specs.Prelude.{ℕ, ◌*◌, ◌≤◌, ◌≡◌, true, List, length, take}
use Rattle.model.specs.Player.{records_in, session_after}
use Rattle.session.specs.declared.Session.{Session}
use Rattle.session.specs.Stored.{view, hold}
use Rattle.notes.specs.Places.{Tells}
use Rattle.play.specs.Playable.{Playable}
use Rattle.reading.specs.Blocks.{most_records}
use Rattle.player_files.specs.Restores.{restores_from}
use Rattle.player_files.specs.declared.Said.{Said}
use Rattle.player_files.specs.declared.Turned.{Turned}

-- what saying a block leaves, in whatever manner
pub record Says (tb : List ℕ) (c : Session) (block : List ℕ) (r : Said) : Type 0 where
  pub played : r.session ≡ hold (session_after tb (view c) (records_in block))
  pub keeps : Playable tb r.session

-- where the input goes on behind it, the block is full, and so holds whole records (`WholeBlocks` in `play/specs/Blocks.antt`)
pub record Turns (tb : List ℕ) (c : Session) (input : List ℕ) (r : Turned) : Type 0 where
  pub read : r.count ≤ length input
  pub played : r.session ≡ hold (session_after tb (view c) (records_in (take r.count input)))
  pub met : Tells (restores_from 1 (records_in (take r.count input))) r.restores
  pub few : (r.restores.count ≤ most_records) × (r.restores.first ≤ most_records)
  pub full : r.more ≡ true → r.count ≡ 6 * most_records
  pub keeps : Playable tb r.session
