-- `plans::put_row` meets its contract: the row by its parts, with or without a pop, with or without a task that goes.
use Prim.Native.Nat.{ℕ, ◌+◌, ◌<◌}
use mathlib.Core.Path.{◌≡◌, sym, ◌∙◌, ap}
use mathlib.Core.Bool.{Bool}
use mathlib.Core.List.{List}
use native.Mathlib.Omega.{arith}
use lib.ListN.{length, set}
use borrow.Author.Rules.{rules}
use borrow.Author.Tests.{lt-ltb}
use Rattle.std.specs.List.{copy_within}
use Rattle.session.specs.declared.Session.{Session}
use Rattle.session.specs.declared.Task.{Task}
use Rattle.session.specs.Stored.{blank_task}
use Rattle.effects.specs.Rows.{shifted}
use Rattle.plans.specs.Puts.{popped_if, gone_if}
use Rattle.plans.proofs.Rows.{pops-by, stays_by, popped-length}
use Rattle.plans.proofs.PutRows.{copied-shifts, copied-goes}
use Rattle.plans.proofs.put_row.Goals as goal
use Rattle.plans.proofs.put_row.Goals.{then-plan, else-plan}
use Rattle.session.proofs.Setters.{with_tasks}

pub returns-then-plan-lt-NO_TASK : goal.returns-then-plan-lt-NO_TASK
returns-then-plan-lt-NO_TASK c =
    let s = c.args.s.now in
    let p = c.args.plan in
    let size : length s.tasks ≡ 16 = search rules in
    let few : p.shift < length s.tasks = omega (arith, c.requires.few) in
    let row : set c.copy_within.new.self 0 p.front ≡ shifted p.front p.shift s.tasks =
    ap (λ (ts : List Task). set ts 0 p.front) c.copy_within.ensures.after
    ∙ ap (λ (k : ℕ). set (copy_within s.tasks 0 k 1) 0 p.front) c.from-shift.ensures
    ∙ copied-shifts p.front p.shift s.tasks few in
    let front = with_tasks s (set c.copy_within.new.self 0 p.front) in
    let pops : c.if-plan.s ≡ with_tasks s (popped_if p.pops (shifted p.front p.shift s.tasks)) =
    elim c.if-plan.branch [
      | then-plan w ↦ w.s-is ∙ pops-by p.pops front w.if-plan.true w.pop.ensures ∙ ap (λ (ts : List Task). with_tasks s (popped_if p.pops ts)) row
      | else-plan w ↦ w.s-is ∙ stays_by p.pops front w.if-plan.false ∙ ap (λ (ts : List Task). with_tasks s (popped_if p.pops ts)) row
    ] in
    let left = popped_if p.pops (shifted p.front p.shift s.tasks) in
    ap (λ (ts : List Task). with_tasks c.if-plan.s (set ts 15 c.blank.result)) c.copy_within-then-plan-lt-NO_TASK.ensures.after
    ∙ ap (λ (k : ℕ). with_tasks c.if-plan.s (set (copy_within c.if-plan.s.tasks (k + 1) 16 k) 15 c.blank.result)) c.from-gone.ensures
    ∙ ap (λ (t : Task). with_tasks c.if-plan.s (set (copy_within c.if-plan.s.tasks (p.gone + 1) 16 p.gone) 15 t)) c.blank.ensures
    ∙ ap (λ (o : Session). with_tasks o (set (copy_within o.tasks (p.gone + 1) 16 p.gone) 15 blank_task)) pops
    ∙ ap (with_tasks s)
    (copied-goes blank_task p.gone 16 left c.if-plan-lt-NO_TASK.true (popped-length p.pops p.front p.shift s.tasks few ∙ size)
    ∙ ap (λ (b : Bool). gone_if b p.gone left) (sym (lt-ltb p.gone 16 c.if-plan-lt-NO_TASK.true)))
