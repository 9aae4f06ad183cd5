-- The first i entries are written, with a place for each; then one more.
use Prim.Native.Nat.{◌*◌, ◌≤◌}
use Rattle.model.proofs.WrittenLaws.{Wrote}
use Rattle.flag_chart.specs.Chart.{lines_of}
use Rattle.flag_chart.proofs.write.Given as goal

abbrev pub invariant-loop-i : goal.invariant-loop-i
invariant-loop-i l = record {
  short : l.at ≤ 4 * l.i;
  text : Wrote l.initial.out 0 (lines_of l.i) l.out l.at;
}
