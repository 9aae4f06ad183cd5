-- The loop's invariant: the session can be played on, and so many records were met at most that no number overflows; the buffer
-- is as long as a block. The number of blocks left falls.
use Prim.Native.Nat.{ℕ, ◌*◌}
use mathlib.Core.Path.{sym, ◌∙◌}
use native.Mathlib.Omega.{arith}
use lib.ListN.{length-replicate}
use Rattle.play.proofs.Replies.{fresh-playable}
use Rattle.reading.specs.Blocks.{most_records}
use Rattle.player_files.proofs.run.Goals as goal

pub loop-block-init : goal.loop-block-init
loop-block-init g c =
    let none = c.none-met.ensures.count in (
      rw c.fresh-s.ensures (fresh-playable c.args.table.now),
      (omega arith, length-replicate {A = ℕ} (6 * most_records) 0),
    )

pub slice_bounds-turn-end : goal.slice_bounds-turn-end
slice_bounds-turn-end g c = sym c.loop-block.invariant.1.1

pub turn-t-requires : goal.turn-t-requires
turn-t-requires g c = let inv = c.loop-block.invariant in record { playable = inv.0; input_len = inv.1.1 }

pub joined-met-requires : goal.joined-met-requires
joined-met-requires g c =
    let few = c.turn-t.ensures.few in
    let all = c.loop-block.invariant.1 in
    (omega (arith, few.0, all.0), omega (arith, few.1))

pub loop-block-preserved : goal.loop-block-preserved
loop-block-preserved g c =
    let all = c.loop-block.invariant.1 in
    let sum = c.joined-met.ensures.sum in (
      c.turn-t.ensures.keeps,
      (omega (arith, sum, c.turn-t.ensures.few.0, all.0), c.turn-t.auto.input ∙ all.1),
    )
