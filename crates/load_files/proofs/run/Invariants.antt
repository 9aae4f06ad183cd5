-- The loop's invariant: the state is that after the records that were made, and can be gone on from; the buffer is as long as a
-- block. The number of records left falls.
use Rattle.std.proofs.Common.{◌≡◌, ◌-◌, ◌*◌, ◌≤◌, length}
use Rattle.reading.specs.Blocks.{most_records}
use Rattle.loads.specs.Generator.{state_after}
use Rattle.loads.specs.Loads.{load_refusal}
use Rattle.load_files.proofs.run.Given as goal

abbrev pub invariant-loop-left : goal.invariant-loop-left
invariant-loop-left g l =
    (l.left ≤ l.records)
    × ((l.state ≡ state_after l.seed (l.records - l.left)) × ((load_refusal l.table l.state ≡ 0) × (length l.buffer ≡ 6 * most_records)))

abbrev pub decreases-loop-left : goal.decreases-loop-left
decreases-loop-left g l = l.left
