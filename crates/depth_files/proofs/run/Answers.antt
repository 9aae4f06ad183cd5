-- The session can be played on after each block, and the calls so far fit.
use Rattle.std.proofs.Common.{arith, ℕ, ◌*◌, sym, ◌∙◌}
use lib.ListN.{length-replicate}
use Rattle.play.proofs.Replies.{fresh-playable}
use Rattle.reading.specs.Blocks.{most_records}
use Rattle.depth_files.proofs.run.Goals as goal

pub loop-block-init : goal.loop-block-init
loop-block-init g c = (
  rw c.fresh-s.ensures (fresh-playable c.args.table.now),
  (omega arith, length-replicate {A = ℕ} (6 * most_records) 0),
)

pub slice_bounds-turn-end : goal.slice_bounds-turn-end
slice_bounds-turn-end g c = sym c.loop-block.invariant.1.1

pub turn-r-requires : goal.turn-r-requires
turn-r-requires g c = record { playable = c.loop-block.invariant.0; input_len = c.loop-block.invariant.1.1 }

pub overflow_add-calls : goal.overflow_add-calls
overflow_add-calls g c = omega (arith, c.turn-r.ensures.few, c.loop-block.invariant.1.0)

pub loop-block-preserved : goal.loop-block-preserved
loop-block-preserved g c = (
  c.turn-r.ensures.keeps,
  (omega (arith, c.turn-r.ensures.few, c.loop-block.invariant.1.0), c.turn-r.auto.input ∙ c.loop-block.invariant.1.1),
)
