-- The length that N says is 4 to 130 exactly where N is good.
use mathlib.Core.Path.{sym, ◌∙◌, ap}
use native.Mathlib.Omega.{arith}
use Rattle.std.specs.Prelude.{Ok, Err}
use Rattle.table.specs.declared.NoTable.{NoTable}
use Rattle.table.proofs.BeginningLaws.{begins-table, begins-cut, begins-bad}
use Rattle.table.proofs.beginning_of.Goals as goal

pub returns-then-long-lt4 : goal.returns-then-long-lt4
returns-then-long-lt4 c = sym (begins-bad c.args.input.now (λ g. omega arith))

pub returns-then-long-gt-LONGEST : goal.returns-then-long-gt-LONGEST
returns-then-long-gt-LONGEST c = sym (begins-bad c.args.input.now (λ g. omega arith))

pub returns-then-long-input : goal.returns-then-long-input
returns-then-long-input c =
    let said = c.length_said-long in
    let l = c.args.input.now in
    ap (λ n. Err (NoTable.Cut n)) said.ensures ∙ sym (begins-cut l (record { some = omega arith; most = omega arith }) (omega arith))

pub returns : goal.returns
returns c =
    let said = c.length_said-long in
    let l = c.args.input.now in
    ap Ok said.ensures ∙ sym (begins-table l (record { some = omega arith; most = omega arith }) (omega arith))
