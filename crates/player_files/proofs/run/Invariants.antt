-- The loop's invariant: the session can be played on, and so many records were met at most that no number overflows; the buffer
-- is as long as a block.
use Prim.Native.Nat.{◌*◌, ◌≤◌}
use mathlib.Core.Path.{◌≡◌}
use lib.ListN.{length}
use Rattle.play.specs.Playable.{Playable}
use Rattle.reading.specs.Blocks.{most_records}
use Rattle.player_files.proofs.run.Given as goal

abbrev pub invariant-loop-block : goal.invariant-loop-block
invariant-loop-block g l = Playable l.table l.s × ((l.met.count ≤ most_records * l.block) × (length l.input ≡ 6 * most_records))
