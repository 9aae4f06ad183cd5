-- One record more is noted, or what is left at the end.
use Rattle.std.proofs.lemmas.List.{take_rest}
use Rattle.recording.proofs.Ignoring.{noted-start, noted_more, noted-end}
use Rattle.recording.proofs.ignored.Goals as goal

pub loop-n-init : goal.loop-n-init
loop-n-init c = noted-start c.args.input.now c.args.from c.none-seen.result c.requires c.none-seen.ensures

pub loop-n-preserved : goal.loop-n-preserved
loop-n-preserved c = let h = rw (take_rest c.args.input.now c.loop-n.p) at c.in-Some.ensures in noted_more c.loop-n.invariant h.0 h.1 c.noted-seen.ensures

pub returns : goal.returns
returns c = noted-end c.loop-n.invariant (rw (take_rest c.args.input.now c.loop-n.p) at c.in_default.ensures) c.noted.ensures
