-- The loop's invariant: the session can be played on, and so many records were met at most that their number does not overflow;
-- the buffer is as long as a block.
use Rattle.std.proofs.Common.{◌*◌, ◌≤◌, ◌≡◌, length}
use Rattle.play.specs.Playable.{Playable}
use Rattle.reading.specs.Blocks.{most_records}
use Rattle.depth_files.proofs.run.Given as goal

abbrev pub invariant-loop-block : goal.invariant-loop-block
invariant-loop-block g l = Playable l.table l.s × ((l.calls ≤ most_records * l._block) × (length l.input ≡ 6 * most_records))
