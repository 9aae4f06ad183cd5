-- `rules::group_of` meets its contract: the mode of b and the front screen decide.
use mathlib.Core.Path.{sym, ◌∙◌}
use Rattle.rules.proofs.Groups.{group-instance, group-task, group-apart, group-near}
use Rattle.rules.proofs.group_of.Goals as goal

pub returns-then-is_apart : goal.returns-then-is_apart
returns-then-is_apart c v h =
    let a = c.args in
    sym
    (group-apart a.table.now v a.b a.f c.mode-mode.ensures c.in_default.in_default-own.rest.0.1 c.in_default.in_default-own.rest.1
    (c.is_apart.ensures ∙ rw h) c.if-is_apart.true)

pub returns-in-3 : goal.returns-in-3
returns-in-3 c v h =
    let a = c.args in
    sym (group-instance a.table.now v a.b a.f c.mode-mode.ensures c.in-3.is)

pub returns-in-2 : goal.returns-in-2
returns-in-2 c v h =
    let a = c.args in
    sym (group-task a.table.now v a.b a.f c.mode-mode.ensures c.in-2.is)

pub returns-else-is_apart : goal.returns-else-is_apart
returns-else-is_apart c v h =
    let a = c.args in
    sym
    (group-near a.table.now v a.b a.f c.mode-mode.ensures c.in_default.in_default-own.rest.0.1 c.in_default.in_default-own.rest.1
    (c.is_apart.ensures ∙ rw h) c.if-is_apart.false)
