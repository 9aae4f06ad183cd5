-- No byte of a record that is not in the share; else all behind what is no part of it, which is there.
use mathlib.Core.Path.{sym, ◌∙◌}
use native.Mathlib.Omega.{arith}
use Rattle.endings.proofs.Sharing.{header-fits, bytes-none, bytes-some}
use Rattle.endings.proofs.bytes_in.Goals as goal

pub returns-then-not-is_in : goal.returns-then-not-is_in
returns-then-not-is_in c =
    bytes-none c.args.bytes.now c.args.share (sym c.is_in.ensures ∙ c.if-not-is_in.true)

pub overflow_sub-result : goal.overflow_sub-result
overflow_sub-result c =
    let a = c.args in
    omega (arith, c.header_of.ensures, header-fits a.bytes.now a.share (sym c.is_in.ensures ∙ c.if-not-is_in.false))

pub returns : goal.returns
returns c =
    bytes-some c.args.bytes.now c.args.share (sym c.is_in.ensures ∙ c.if-not-is_in.false) c.header_of.ensures
