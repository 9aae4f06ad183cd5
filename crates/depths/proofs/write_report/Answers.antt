-- Each number behind the one before it.
use mathlib.Core.Path.{◌∙◌}
use mathlib.Core.List.{[], ◌∷◌, ◌++◌}
use native.Mathlib.Nat.{zero-add}
use native.Mathlib.Omega.{arith}
use Rattle.model.specs.Player.{space, newline}
use Rattle.model.proofs.WrittenLaws.{Wrote, wrote}
use Rattle.depths.specs.Reports.{figures, numbers_text, report_text}
use Rattle.depths.proofs.Figures.{figures-then}
use Rattle.depths.proofs.write_report.Goals as goal

pub returns : goal.returns
unfolding report_text numbers_text
returns c =
    let r = c.args.r in
    let b1 = c.write_figures-at.ensures.bound in
    let b2 = c.write_figures-at-2.ensures.bound in
    let b3 = c.write_figures-at-3.ensures.bound in
    let b4 = c.write_figures.ensures.bound in
    let last = figures r.tenths ++ newline ∷ [] in
    let third = figures r.greatest ++ space ∷ last in
    let second = figures r.refused ++ space ∷ third in
    let text : Wrote c.args.out.now 0 (figures r.accepted ++ space ∷ second) c.write_figures.new.out c.write_figures.result =
    figures-then r.accepted space second (wrote 7 (c.write_figures-at.ensures.place, (c.write_figures-at.ensures.text, c.write_figures-at.ensures.bound))) (omega (arith, c.requires)) (
    figures-then r.refused space third (wrote 7 (c.write_figures-at-2.ensures.place, (c.write_figures-at-2.ensures.text, c.write_figures-at-2.ensures.bound))) (omega (arith, c.requires, c.write_figures-at.auto.out)) (
    figures-then r.greatest space last (rw c.from.ensures at (wrote 7 (c.write_figures-at-3.ensures.place, (c.write_figures-at-3.ensures.text, c.write_figures-at-3.ensures.bound)))) (omega (arith, c.requires, c.write_figures-at.auto.out, c.write_figures-at-2.auto.out))
    (wrote 7 (c.write_figures.ensures.place, (c.write_figures.ensures.text, c.write_figures.ensures.bound))))) in
    record { length = text.place ∙ zero-add _; text = text.text; bound = omega arith }
