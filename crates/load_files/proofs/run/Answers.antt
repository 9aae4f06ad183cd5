-- The state after a block is that after its records and those before it.
use Rattle.std.proofs.Common.{arith, ◌≡◌, ◌+◌, ◌-◌, refl, sym, ap, ◌∙◌}
use Rattle.loads.specs.Generator.{state_after}
use Rattle.loads.proofs.GeneratorLaws.{state-append}
use Rattle.load_files.specs.Blocks.{block_of}
use Rattle.load_files.proofs.run.Goals as goal

pub loop-left-init : goal.loop-left-init
unfolding state_after
loop-left-init g c =
    let none : c.args.records - c.args.records ≡ 0 = omega arith in
    (omega arith, (rw none, (c.requires, refl)))

pub loop-left-preserved : goal.loop-left-preserved
loop-left-preserved g c =
    let l = c.loop-left in
    let a = c.args in
    let made = c.make_block-made.ensures in
    let done = a.records - l.left in
    let more = block_of l.left in
    let on : done + more ≡ a.records - (l.left - c.make_block-made.result.count) = omega (arith, made.count, l.invariant.0) in
    let after = ap (λ s. state_after s more) l.invariant.1.0 ∙ sym (state-append a.seed done more) in (
      omega (arith, l.invariant.0),
      (
        made.state ∙ after ∙ ap (state_after a.seed) on,
        (made.goes_on, c.make_block-made.auto.buffer ∙ l.invariant.1.1.1),
      ),
    )
