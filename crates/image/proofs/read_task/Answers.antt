-- `image::read_task` meets its contract. The loop's invariant: the i lowest screens are stored.
use native.Mathlib.Omega.{arith}
use Rattle.image.proofs.ReadTask.{part_none, part-next, part-all}
use Rattle.image.proofs.read_task.Goals as goal

pub loop-i-init : goal.loop-i-init
loop-i-init c = let a = c.args in part_none a.body.now a.at a.height c.requires.1

pub loop-i-preserved : goal.loop-i-preserved
loop-i-preserved c =
    let a = c.args in
    let here = c.loop-i in
    part-next a.body.now a.at a.height c.requires.1 here.out here.i here.invariant c.loop-i-test.true c.requires.0

pub returns : goal.returns
returns c =
    let a = c.args in
    let here = c.loop-i in
    part-all a.body.now a.at a.height c.requires.1 here.out here.i here.invariant (omega arith)
