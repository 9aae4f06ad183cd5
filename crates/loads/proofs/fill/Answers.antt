-- The first i records are written, and the state is that after them; then one more.
use Prim.Native.Nat.{◌+◌, ◌*◌}
use mathlib.Core.Path.{◌≡◌, refl, sym, ◌∙◌, ap}
use native.Mathlib.Omega.{arith}
use lib.ListN.{length}
use Rattle.model.proofs.WrittenLaws.{wrote-nil, wrote-append}
use Rattle.loads.specs.Generator.{next, record_from, records_from, state_after}
use Rattle.loads.proofs.GeneratorLaws.{records-more, state-more, record-length}
use Rattle.loads.proofs.fill.Goals as goal

pub loop-i-init : goal.loop-i-init
unfolding records_from state_after
loop-i-init c = record { state = refl; bytes = wrote-nil c.args.out.now 0 }

pub loop-i-preserved : goal.loop-i-preserved
loop-i-preserved c =
    let a = c.args in
    let i = c.loop-i.i in
    let v = c.loop-i.invariant in
    let w = c.write_record-state.ensures in
    let long = record-length a.n c.loop-i.state in
    let p : 6 * (i + 1) ≡ 6 * i + length (record_from a.n c.loop-i.state) = omega arith in
    let r = wrote-append v.bytes (omega arith) (record { place = p; text = w.bytes }) in
    record { state = w.state ∙ ap next v.state ∙ sym (state-more a.seed i); bytes = rw (records-more a.n a.seed i, ← v.state) r }

pub returns : goal.returns
returns c =
    let a = c.args in
    let e : c.loop-i.i ≡ a.count = omega arith in
    let v = c.loop-i.invariant in
    record { state = v.state ∙ ap (state_after a.seed) e; bytes = rw e at v.bytes.text }
