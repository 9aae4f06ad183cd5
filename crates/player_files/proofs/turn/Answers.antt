-- A block has 10,000 records at most, and all of it is said.
use Rattle.std.proofs.Common.{arith, ℕ, ◌*◌, ◌≤◌, List, length, take, length-take-le}
use borrow.Author.Tests.{eqb-true}
use Rattle.model.specs.Player.{records_in}
use Rattle.model.proofs.Logic.{and_right}
use Rattle.play.proofs.BlockLaws.{records-few}
use Rattle.reading.specs.Blocks.{most_records}
use Rattle.player_files.proofs.Restoring.{met-few}
use Rattle.player_files.proofs.turn.Goals as goal

few : (n : ℕ) (input : List ℕ) → n ≤ length input → length input ≤ 6 * most_records → length (records_in (take n input)) ≤ most_records
few n input h room =
    let long = length-take-le n input h in
    let k = records-few (take n input) in
    omega arith

pub say-said-requires-clause-block_len_bound : goal.say-said-requires-clause-block_len_bound
say-said-requires-clause-block_len_bound g c =
    few _ _ c.read_block-got.ensures.0 (omega (arith, c.read_block-got.auto.buffer, c.requires.input_len))

pub returns : goal.returns
returns g c =
    let block = take c.read_block-got.result.count c.read_block-got.new.buffer in
    record {
      read = c.read_block-got.ensures.0;
      played = c.say-said.ensures.played;
      met = c.restores-met.ensures;
      few = met-few (records_in block) c.restores-met.ensures
          (few _ _ c.read_block-got.ensures.0 (omega (arith, c.read_block-got.auto.buffer, c.requires.input_len)));
      full = λ h. eqb-true _ _ (and_right c.say-said.result.went _ h);
      keeps = c.say-said.ensures.keeps;
    }
