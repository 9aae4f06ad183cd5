-- What a block leaves: of the buffer it is lent to, the first bytes, as many as were counted, are the block, and all of it is
-- tallied. That those bytes are what the file has, no contract can say.
use Rattle.std.specs.Prelude.{ℕ, ◌*◌, ◌≤◌, ◌≡◌, List, eqb, length, take}
use Rattle.model.specs.Player.{records_in, session_after}
use Rattle.session.specs.declared.Session.{Session}
use Rattle.session.specs.Stored.{view, hold}
use Rattle.play.specs.Playable.{Playable}
use Rattle.tally.specs.declared.Tally.{Tally}
use Rattle.tally.specs.Tallies.{added_all}
use Rattle.depths.specs.Depths.{answers_to}
use Rattle.reading.specs.Blocks.{most_records}
use Rattle.depth_files.specs.declared.Turned.{Turned}

-- where the input goes on behind it, the block is full, and so holds whole records (`WholeBlocks` in `play/specs/Blocks.antt`)
pub record Turns (tb : List ℕ) (c : Session) (t : Tally) (input : List ℕ) (r : Turned) : Type 0 where
  pub read : r.count ≤ length input
  pub played : r.session ≡ hold (session_after tb (view c) (records_in (take r.count input)))
  pub tallied : r.tally ≡ added_all t (answers_to tb (view c) (records_in (take r.count input)))
  pub counted : r.records ≡ length (records_in (take r.count input))
  pub few : r.records ≤ most_records
  pub full : r.more ≡ eqb r.count (6 * most_records)
  pub keeps : Playable tb r.session
