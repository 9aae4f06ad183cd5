-- `starts::seek` meets its contract: refused before, refused at its entry, or sought.
use mathlib.Core.Path.{◌≡◌, sym, ap}
use Rattle.model.specs.Refusals.{refusal_in}
use Rattle.starts.proofs.Seeking.{entered-startable, sought-found}
use Rattle.starts.proofs.seek.Goals as goal

pub of-requires : goal.of-requires
of-requires g c = (c.requires (ap refusal_in c.in_ok-checked.was)).good

pub seek_task-requires : goal.seek_task-requires
seek_task-requires g c =
    let a = c.args in
    let passed : refusal_in a.checked ≡ 0 = ap refusal_in c.in_ok-checked.was in
    entered-startable a.table.now a.s a.b a.word (refusal_in a.checked) (c.requires passed) (rw c.of.ensures at (sym c.in_ok-check.ensures))

pub returns : goal.returns
returns g c =
    let a = c.args in
    let k = refusal_in a.checked in
    let passed : k ≡ 0 = ap refusal_in c.in_ok-checked.was in
    let entered = rw c.of.ensures at (sym c.in_ok-check.ensures) in
    sought-found a.table.now a.s a.b a.word k passed entered
    (entered-startable a.table.now a.s a.b a.word k (c.requires passed) entered)
    (rw c.read.ensures at c.seek_task.ensures)
