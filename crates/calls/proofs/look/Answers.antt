-- `calls::look` meets its contract: refused by the shared checks, or the session as it is, and what it shows.
use mathlib.Core.Path.{sym, ◌∙◌, ap}
use Rattle.model.specs.Calls.{look}
use Rattle.model.specs.Refusals.{refusal_in, refusal_number}
use Rattle.model.proofs.RefusalLaws.{number-some}
use Rattle.starts.proofs.LengthLaws.{sized_by}
use Rattle.checks.proofs.SharedLaws.{shared-ready}
use Rattle.calls.proofs.Settling.{call-refused, look-settled, ready-seen}
use Rattle.calls.proofs.look.Goals as goal

pub returns-in-Err : goal.returns-in-Err
returns-in-Err c =
    let a = c.args in
    c.refuse.ensures
    ∙ sym (call-refused a.on.now.table.now a.on.now.session.now look (refusal_number c.in-Err.refusal) (sym c.args.on.now.says ∙ ap refusal_in c.in-Err.is) (number-some c.in-Err.refusal))

pub look_at-requires : goal.look_at-requires
look_at-requires c =
    let a = c.args in
    ready-seen a.on.now.table.now a.on.now.session.now (sized_by c.lengths.ensures) (shared-ready a.on.now.table.now a.on.now.session.now (sym c.args.on.now.says ∙ ap refusal_in c.in_default.is))

pub returns : goal.returns
returns c =
    let a = c.args in
    rw c.look_at.ensures
    (sym (look-settled a.on.now.table.now a.on.now.session.now (sized_by c.lengths.ensures) (shared-ready a.on.now.table.now a.on.now.session.now (sym c.args.on.now.says ∙ ap refusal_in c.in_default.is))))
