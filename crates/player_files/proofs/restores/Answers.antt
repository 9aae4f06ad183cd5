-- The loop's invariant: the place that is reached, and the notes up to there.
use native.Mathlib.Omega.{arith}
use Rattle.player_files.proofs.Restoring.{met_start, met-end, met-last, met-more}
use Rattle.player_files.proofs.restores.Goals as goal

pub loop-p-init : goal.loop-p-init
loop-p-init c = met_start c.args.block.now c.none-met.result c.none-met.ensures

pub noted-met-requires : goal.noted-met-requires
noted-met-requires c =
    let l = c.loop-p.invariant in
    let few = l.few in
    let number = l.number in
    omega arith

pub returns-then-block-p-le6 : goal.returns-then-block-p-le6
returns-then-block-p-le6 c = met-last c.loop-p.invariant (omega arith) c.noted-met.ensures (omega arith)

pub overflow_add-i : goal.overflow_add-i
overflow_add-i c = let number = c.loop-p.invariant.number in omega arith

pub loop-p-preserved : goal.loop-p-preserved
loop-p-preserved c = met-more c.loop-p.invariant (omega arith) c.noted-met.ensures (omega arith)

pub returns : goal.returns
returns c = met-end c.loop-p.invariant (omega arith)
