-- `navigator::play_record` meets its contract: refused where no byte is there, or what the record asks for.
use native.Mathlib.Omega.{arith}
use Rattle.navigator.proofs.FirstRecord.{played-read, played-none, played-keeps}
use Rattle.navigator.proofs.Promise3Laws.{promise3}
use Rattle.navigator.proofs.play_record.Goals as goal

pub returns-then-calls-eq0 : goal.returns-then-calls-eq0
returns-then-calls-eq0 c =
    let a = c.args in
    let e = played-none a.table.now a.s a.calls.now c.if-calls-eq0.true c.refuse.ensures in
    record { gives = e; keeps = played-keeps a.table.now a.s a.calls.now e; promise = promise3 a.table.now }

pub read-r-requires : goal.read-r-requires
read-r-requires c = omega (arith, c.if-calls-eq0.false)

pub returns : goal.returns
returns c =
    let a = c.args in
    let e = played-read a.table.now a.s a.calls.now (omega (arith, c.if-calls-eq0.false)) c.read-r.ensures (rw (c.checked.ensures.table, c.checked.ensures.session) at c.make.ensures.reply) in
    record { gives = e; keeps = played-keeps a.table.now a.s a.calls.now e; promise = promise3 a.table.now }
