-- Each return 1 contradicts the table's shape, each return 2 what fills it.
use mathlib.Core.Bool.{not}
use mathlib.Core.Path.{sym, ap}
use native.Mathlib.Omega.{arith}
use Rattle.model.proofs.Logic.{contradiction}
use Rattle.model.proofs.Tables.{refusal-0, refusal-1, refusal-2, modes-decides}
use Rattle.model.proofs.Walks.{said-yes, said-no}
use Rattle.table.proofs.check.Goals as goal

pub returns-then-long-lt2 : goal.returns-then-long-lt2
returns-then-long-lt2 c = sym (refusal-1 c.args.table.now (λ s. omega arith))

pub returns-then-long-from : goal.returns-then-long-from
returns-then-long-from c = sym (refusal-1 c.args.table.now (λ s. omega arith))

pub returns-then-n-lt1 : goal.returns-then-n-lt1
returns-then-n-lt1 c = sym (refusal-1 c.args.table.now (λ s. omega arith))

pub returns-then-n-gt-SCREENS : goal.returns-then-n-gt-SCREENS
returns-then-n-gt-SCREENS c = sym (refusal-1 c.args.table.now (λ s. omega arith))

pub returns-then-main_screen-n : goal.returns-then-main_screen-n
returns-then-main_screen-n c =
    sym (refusal-2 c.args.table.now (record { long = omega arith; some = omega arith; most = omega arith }) (λ f. omega arith))

pub returns-then-not-modes_fit : goal.returns-then-not-modes_fit
returns-then-not-modes_fit c =
    let tb = c.args.table.now in
    let fit = modes-decides tb c.size-n.result in
    let bad = said-no c.modes_fit.ensures (ap not c.if-not-modes_fit.true) in
    sym
    (refusal-2 tb (record { long = omega arith; some = omega arith; most = omega arith })
    (λ f. contradiction (fit.shows (λ x l. f.modes x (omega arith))) bad))

pub returns : goal.returns
returns c =
    let tb = c.args.table.now in
    let fit = (modes-decides tb c.size-n.result).holds (said-yes c.modes_fit.ensures (ap not c.if-not-modes_fit.false)) in
    sym
    (refusal-0 tb (record { long = omega arith; some = omega arith; most = omega arith })
    (record { main = omega arith; modes = λ x l. fit x (omega arith) }))
