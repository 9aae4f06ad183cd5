-- `image_calls::restore` meets its contract: refused, with the session that stood, or the session that was brought.
use Rattle.model.specs.Refusals.{refusal_in, refusal_number}
use Rattle.model.proofs.RefusalLaws.{number-some}
use Rattle.image_calls.proofs.RestoreSettling.{restore-refused, restore-made}
use Rattle.image_calls.proofs.restore.Goals as goal
use Rattle.image_calls.proofs.restore.Goals.{in-Ok, in-Err}

pub look_at-reply-requires : goal.look_at-reply-requires
look_at-reply-requires c =
    let a = c.args in (restore-made a.on.now.table.now a.on.now.session.now a.image.now (refusal_in a.on.now.refused) a.on.now.says c.in-Ok.ensures.brings).0

pub returns : goal.returns
returns c =
    let a = c.args in
    elim c.match-restored.branch [
      | in-Ok w ↦
          rw (w.reply-is, w.look_at-reply.ensures)
          (restore-made a.on.now.table.now a.on.now.session.now a.image.now (refusal_in a.on.now.refused) a.on.now.says w.in-Ok.ensures.brings).1
      | in-Err w ↦
          rw (w.reply-is, w.refused-reply.ensures, w.number.ensures, w.in-Err.ensures.stays (number-some w.in-Err.refusal))
          (restore-refused a.on.now.table.now a.on.now.session.now a.image.now (refusal_in a.on.now.refused) a.on.now.says (refusal_number w.in-Err.refusal) (number-some w.in-Err.refusal) w.in-Err.ensures.brings)
    ]
