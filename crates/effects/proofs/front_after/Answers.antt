-- `effects::front_after` meets its contract: the task is told by the change of its screens and by its root.
use mathlib.Core.Path.{◌∙◌, ap, ap₂}
use Rattle.model.specs.declared.Change.{Change}
use Rattle.session.proofs.Setters.{with_root}
use Rattle.effects.specs.Fronted.{changed_task, root_after}
use Rattle.effects.proofs.Bases.{front-is}
use Rattle.effects.proofs.front_after.Goals as goal

pub returns : goal.returns
returns c =
    let a = c.args in
    ap₂ with_root c.changed-out.ensures c.root_after.ensures
    ∙ ap (λ (x : Change). with_root (changed_task a.b x a.t) (root_after a.t.root a.b a.effect)) c.change_of.ensures
    ∙ front-is a.t a.b a.effect
