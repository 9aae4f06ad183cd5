-- One word more, whether or not it is a filling.
use mathlib.Core.Path.{refl, ◌∙◌}
use native.Mathlib.Numerals.{add-one}
use Rattle.fronts.specs.Fronts.{fronts_among}
use Rattle.fronts.proofs.FrontLaws.{among-filling, among-other}
use Rattle.fronts.proofs.set_of.Goals as goal
use Rattle.fronts.proofs.set_of.Goals.{then-word-mask, else-word-mask}

pub loop-i-init : goal.loop-i-init
unfolding fronts_among
loop-i-init c = refl

pub loop-i-preserved : goal.loop-i-preserved
loop-i-preserved c =
    let a = c.args in
    let l = c.loop-i in
    let word = c.word_at-word.ensures in
    rw (add-one l.i)
    (elim c.if-word-mask.branch [
      | then-word-mask w ↦ among-filling a.on.now.table.now a.on.now.session.now a.b a.mask a.value l.i l.invariant word w.if-word-mask.true (w.set-is ∙ w.with_front-set.ensures)
      | else-word-mask w ↦ among-other a.on.now.table.now a.on.now.session.now a.b a.mask a.value l.i l.invariant word w.if-word-mask.false w.set-is
    ])
