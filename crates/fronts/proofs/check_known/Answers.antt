-- 3, then 35.
use mathlib.Core.Path.{sym, ◌∙◌}
use native.Mathlib.Omega.{arith}
use Rattle.fronts.proofs.FrontLaws.{known-3, known-35-mask, known-35-value, known-0}
use Rattle.fronts.proofs.check_known.Goals as goal

pub returns-then-b-size : goal.returns-then-b-size
returns-then-b-size c =
    let a = c.args in
    sym (known-3 a.table.now a.b a.mask a.value (omega (arith, c.size.ensures.size, c.if-b-size.true)))

pub returns-then-has_other_bit : goal.returns-then-has_other_bit
returns-then-has_other_bit c =
    let a = c.args in
    sym (known-35-mask a.table.now a.b a.mask a.value (omega (arith, c.size.ensures.size, c.if-b-size.false)) (sym c.has_other_bit.ensures ∙ c.if-has_other_bit.true))

pub returns-then-value-mask : goal.returns-then-value-mask
returns-then-value-mask c =
    let a = c.args in
    sym (known-35-value a.table.now a.b a.mask a.value (omega (arith, c.size.ensures.size, c.if-b-size.false)) c.if-value-mask.true)

pub returns : goal.returns
returns c =
    let a = c.args in
    sym
    (known-0 a.table.now a.b a.mask a.value (omega (arith, c.size.ensures.size, c.if-b-size.false))
    (sym c.has_other_bit.ensures ∙ c.if-has_other_bit.false) c.if-value-mask.false)
