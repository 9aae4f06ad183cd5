-- As a line's numbers are; or all digits but the last, and that digit behind them.
use Prim.Native.Nat.{◌+◌, ◌/◌, ◌%◌, ◌≤◌}
use mathlib.Core.List.{[], ◌∷◌, ◌++◌}
use native.Mathlib.Omega.{arith}
use lib.ListN.{length-append}
use Rattle.model.specs.Player.{digit}
use Rattle.model.proofs.WrittenLaws.{Wrote, wrote, wrote_one, wrote-append}
use Rattle.depths.specs.Reports.{figures}
use Rattle.depths.proofs.Figures.{figures-few, figures-more, figures-short}
use Rattle.depths.proofs.+write_figures.Goals as goal

pub returns-then-x-lt256 : goal.returns-then-x-lt256
returns-then-x-lt256 t c =
    let e = figures-few c.args.x (omega (arith, c.if-x-lt256.true)) in
    let w = c.write_decimal.ensures in
    record { place = rw e w.place; text = rw e w.text; bound = omega (arith, w.bound) }

pub bounds-out-last : goal.bounds-out-last
bounds-out-last t c =
    let a = c.args in
    let w = c.write_figures-last.ensures in
    let s = figures-short (a.x / 10) (omega (arith, c.ranges.x.fits)) in
    omega (arith, w.place, length-append (figures (a.x / 10)) (digit (a.x % 10) ∷ []), c.write_figures-last.auto.out, c.requires)

pub returns : goal.returns
returns t c =
    let a = c.args in
    let w = c.write_figures-last.ensures in
    let s = figures-short (a.x / 10) (omega (arith, c.ranges.x.fits)) in
    let short : c.write_figures-last.result ≤ a.at + 5 = omega (arith, w.place, length-append (figures (a.x / 10)) (digit (a.x % 10) ∷ [])) in
    let most : Wrote a.out.now a.at (figures (a.x / 10) ++ digit (a.x % 10) ∷ []) c.write_figures-last.new.out c.write_figures-last.result =
    wrote 7 (w.place, (w.text, w.bound)) in
    let k = c.write_figures-last.auto.out in
    let one = wrote_one c.write_figures-last.new.out c.write_figures-last.result a.end (omega (arith, c.requires)) in
    let all = wrote-append most (omega (arith, c.requires)) one in
    let e = figures-more a.x (omega (arith, c.if-x-lt256.false)) (omega (arith, c.ranges.x.fits)) in
    record { place = rw e all.place; text = rw e all.text; bound = omega arith }
