-- `starts::check` meets its contract: 3, then 4, then 21.
use Prim.Native.Nat.{◌<◌}
use mathlib.Core.Path.{sym, ◌∙◌}
use native.Mathlib.Omega.{arith}
use Rattle.model.specs.Table.{size_of}
use Rattle.starts.proofs.Entries.{start-3, start-4, start-21, start-0}
use Rattle.starts.proofs.check.Goals as goal

pub returns-then-b-size : goal.returns-then-b-size
returns-then-b-size c =
    let a = c.args in
    sym (start-3 a.table.now a.n a.b a.word (omega (arith, c.size.ensures.size, c.if-b-size.true)))

pub returns-then-has_other_bit : goal.returns-then-has_other_bit
returns-then-has_other_bit c =
    let a = c.args in
    let known : a.b < size_of a.table.now = omega (arith, c.size.ensures.size, c.if-b-size.false) in
    sym (start-4 a.table.now a.n a.b a.word known (sym c.has_other_bit.ensures ∙ c.if-has_other_bit.true))

pub returns-then-n-eq0 : goal.returns-then-n-eq0
returns-then-n-eq0 c =
    let a = c.args in
    let known : a.b < size_of a.table.now = omega (arith, c.size.ensures.size, c.if-b-size.false) in
    sym (start-21 a.table.now a.n a.b a.word known (sym c.has_other_bit.ensures ∙ c.if-has_other_bit.false) c.if-n-eq0.true)

pub returns : goal.returns
returns c =
    let a = c.args in
    let known : a.b < size_of a.table.now = omega (arith, c.size.ensures.size, c.if-b-size.false) in
    sym (start-0 a.table.now a.n a.b a.word known (sym c.has_other_bit.ensures ∙ c.if-has_other_bit.false) c.if-n-eq0.false)
