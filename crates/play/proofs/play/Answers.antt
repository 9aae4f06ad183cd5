-- The player plays as many bytes as hold the records for whose lines there is room.
use mathlib.Core.Path.{sym, ◌∙◌}
use native.Mathlib.Omega.{arith}
use lib.Seq.{length-take-le}
use Rattle.play.proofs.BlockLaws.{part-fits, part-plays}
use Rattle.play.proofs.play.Goals as goal

pub slice_bounds-run-end : goal.slice_bounds-run-end
slice_bounds-run-end c = let e = c.part_for-part.ensures in sym (length-take-le _ _ (omega arith))

pub run-ran-requires : goal.run-ran-requires
run-ran-requires c =
    let a = c.args in
    record { playable = c.requires; input_in_bounds = rw c.part_for-part.ensures (part-fits a.input.now a.out.now) }

pub returns : goal.returns
returns c =
    let a = c.args in
    let told = part-plays a.input.now a.out.now (rw c.part_for-part.ensures at c.run-ran.ensures) in
    record {
      session = told.0;
      used = c.part_for-part.ensures ∙ told.1.0;
      written = told.1.1.0;
      text = told.1.1.1.0;
      keeps = told.1.1.1.1.0;
      bound = told.1.1.1.1.1;
    }
