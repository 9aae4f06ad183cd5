-- A block has 10,000 records at most, and all of it is tallied.
use Rattle.std.proofs.Common.{arith, ℕ, ◌*◌, ◌≤◌, List, length, take, length-take-le, refl}
use Rattle.model.specs.Player.{records_in}
use Rattle.play.proofs.BlockLaws.{records-few}
use Rattle.reading.specs.Blocks.{most_records}
use Rattle.depth_files.proofs.turn.Goals as goal

few : (n : ℕ) (input : List ℕ) → n ≤ length input → length input ≤ 6 * most_records → length (records_in (take n input)) ≤ most_records
few n input h room =
    let long = length-take-le n input h in
    let k = records-few (take n input) in
    omega arith

pub returns : goal.returns
returns g c =
    let read = c.read_block-read in
    record {
      read = read.ensures.0;
      played = c.tally_records-done.ensures.session;
      tallied = c.tally_records-done.ensures.tally;
      counted = c.count_records-records.ensures;
      few =
          let counted = c.count_records-records.ensures in
          let most = few _ _ read.ensures.0 (omega (arith, read.auto.buffer, c.requires.input_len)) in
          omega arith;
      full = refl;
      keeps = c.tally_records-done.ensures.keeps;
    }
