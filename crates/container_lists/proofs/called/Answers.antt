-- The call of a record, by its kind: what it made of the container, or the container as it was.
use mathlib.Core.Path.{◌∙◌, sym}
use native.Mathlib.Omega.{arith}
use Rattle.container_lists.proofs.Playing.{plain_step, recorded-step, one-back, no_call, made_by, left_by}
use Rattle.container_lists.proofs.called.Goals as goal
use Rattle.container_lists.proofs.called.Goals.{in-1, in-2, in-3}

pub returns-in_default : goal.returns-in_default
returns-in_default c =
    let a = c.args in
    no_call a.c.now a.kind a.operations.now (λ i. omega (arith, i)) (λ i. omega (arith, i)) (λ i. omega (arith, i))

pub returns-in-Ok : goal.returns-in-Ok
returns-in-Ok c =
    let k = c.args.kind in
    let o = c.args.operations.now in
    let s = c.args.c.now in
    elim c.match-kind.branch [
      | in-1 w ↦ made_by s (sym w.reply-is ∙ c.in-Ok.is) ∙ plain_step s k o _ w.in-1.is w.step-reply.ensures.gives
      | in-2 w ↦
          made_by s (sym w.reply-is ∙ c.in-Ok.is)
          ∙ recorded-step s k o _ (λ i. omega (arith, i, w.in-2.is)) w.in-2.is w.step-reply-in-2.ensures.gives
      | in-3 w ↦
          made_by s (sym w.reply-is ∙ c.in-Ok.is)
          ∙ one-back s k o _ (λ i. omega (arith, i, w.in-3.is)) (λ i. omega (arith, i, w.in-3.is)) w.in-3.is w.back-reply.ensures.gives
    ]

pub returns-in_default-reply : goal.returns-in_default-reply
returns-in_default-reply c =
    let k = c.args.kind in
    let o = c.args.operations.now in
    let s = c.args.c.now in
    let r = c.in_default-reply.is in
    elim c.match-kind.branch [
      | in-1 w ↦ left_by s (sym w.reply-is ∙ r) ∙ plain_step s k o _ w.in-1.is w.step-reply.ensures.gives
      | in-2 w ↦
          left_by s (sym w.reply-is ∙ r)
          ∙ recorded-step s k o _ (λ i. omega (arith, i, w.in-2.is)) w.in-2.is w.step-reply-in-2.ensures.gives
      | in-3 w ↦
          left_by s (sym w.reply-is ∙ r)
          ∙ one-back s k o _ (λ i. omega (arith, i, w.in-3.is)) (λ i. omega (arith, i, w.in-3.is)) w.in-3.is w.back-reply.ensures.gives
    ]
