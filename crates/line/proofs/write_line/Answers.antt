-- `line::write_line` meets its contract: each number behind the one before it.
use mathlib.Core.List.{◌∷◌}
use native.Mathlib.Omega.{arith}
use Rattle.model.specs.Answers.{numbers_of}
use Rattle.model.specs.Player.{line_text, line_of}
use Rattle.model.proofs.WrittenLaws.{Wrote, wrote}
use Rattle.line.proofs.LineLaws.{line-next, line-end}
use Rattle.line.proofs.write_line.Goals as goal

pub returns : goal.returns
unfolding line_of
returns c =
    let k = c.args.kind in
    let a = c.args.a in
    let line : Wrote c.args.out.now c.args.at (line_text (k ∷ numbers_of a)) c.write_decimal.new.out c.write_decimal.result =
    line-next _ _ _ (wrote 4 (c.write_decimal-at.ensures.place, (c.write_decimal-at.ensures.text, c.write_decimal-at.ensures.bound))) (omega arith) (
    line-next _ _ _ (wrote 4 (c.write_decimal-at-2.ensures.place, (c.write_decimal-at-2.ensures.text, c.write_decimal-at-2.ensures.bound))) (omega arith) (
    line-next _ _ _ (wrote 4 (c.write_decimal-at-3.ensures.place, (c.write_decimal-at-3.ensures.text, c.write_decimal-at-3.ensures.bound))) (omega arith) (
    line-next _ _ _ (wrote 4 (c.write_decimal-at-4.ensures.place, (c.write_decimal-at-4.ensures.text, c.write_decimal-at-4.ensures.bound))) (omega arith) (
    line-next _ _ _ (wrote 4 (c.write_decimal-at-5.ensures.place, (c.write_decimal-at-5.ensures.text, c.write_decimal-at-5.ensures.bound))) (omega arith) (
    line-next _ _ _ (wrote 4 (c.write_decimal-at-6.ensures.place, (c.write_decimal-at-6.ensures.text, c.write_decimal-at-6.ensures.bound))) (omega arith) (
    line-next _ _ _ (wrote 4 (c.write_decimal-at-7.ensures.place, (c.write_decimal-at-7.ensures.text, c.write_decimal-at-7.ensures.bound))) (omega arith) (
    line-next _ _ _ (wrote 4 (c.write_decimal-at-8.ensures.place, (c.write_decimal-at-8.ensures.text, c.write_decimal-at-8.ensures.bound))) (omega arith) (
    line-next _ _ _ (wrote 4 (c.write_decimal-at-9.ensures.place, (c.write_decimal-at-9.ensures.text, c.write_decimal-at-9.ensures.bound))) (omega arith) (
    line-end _ (wrote 4 (c.write_decimal.ensures.place, (c.write_decimal.ensures.text, c.write_decimal.ensures.bound)))))))))))) in
    record { place = line.place; text = line.text; bound = omega arith }
