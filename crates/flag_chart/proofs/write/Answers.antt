-- The first i entries are written, with a place for each; then one more.
use mathlib.Core.Path.{◌≡◌, ◌∙◌}
use native.Mathlib.Nat.{zero-add}
use native.Mathlib.Omega.{arith}
use Rattle.model.proofs.WrittenLaws.{wrote}
use Rattle.flag_chart.specs.Chart.{chart_text}
use Rattle.flag_chart.proofs.TextLaws.{lines_none, lines_more}
use Rattle.flag_chart.proofs.write.Goals as goal

pub loop-i-init : goal.loop-i-init
loop-i-init c = record { short = omega arith; text = lines_none _ }

pub loop-i-preserved : goal.loop-i-preserved
loop-i-preserved c =
    let w = c.write_decimal-at.ensures in
    record {
      short = omega arith;
      text = lines_more c.loop-i.i c.loop-i.invariant.text (omega (arith, c.requires)) (rw c.entry.ensures.entry at (wrote 4 (w.place, (w.text, w.bound))));
    }

pub returns : goal.returns
unfolding chart_text
returns c =
    let all : c.loop-i.i ≡ 512 = omega arith in
    let text = rw all at c.loop-i.invariant.text in
    record { length = text.place ∙ zero-add _; text = text.text; bound = omega arith }
