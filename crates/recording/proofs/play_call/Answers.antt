-- The record is cut, a restore, or one that the player plays.
use Prim.Native.Nat.{◌-◌}
use native.Mathlib.Omega.{arith}
use Rattle.navigator.proofs.Promise3Laws.{promise3}
use Rattle.recording.proofs.OneCall.{called-cut, called-restore, called-other, called-keeps}
use Rattle.recording.proofs.play_call.Goals as goal

pub returns-in_default : goal.returns-in_default
returns-in_default c =
    let a = c.args in
    let e = called-cut a.table.now a.s a.calls.now c.in_default.ensures c.refuse.ensures in
    record { gives = e; keeps = called-keeps a.table.now a.s a.calls.now e; promise = promise3 a.table.now }

pub returns-then-calls-eq6 : goal.returns-then-calls-eq6
returns-then-calls-eq6 c =
    let a = c.args in
    let h = c.in-Some.ensures in
    let e = called-restore a.table.now a.s a.calls.now h.0 c.if-calls-eq6.true {m = c.in-Some.end - 6} (omega (arith, h.1)) c.restore.ensures.gives in
    record { gives = e; keeps = called-keeps a.table.now a.s a.calls.now e; promise = promise3 a.table.now }

pub returns : goal.returns
returns c =
    let a = c.args in
    let e = called-other a.table.now a.s a.calls.now c.in-Some.ensures.0 c.if-calls-eq6.false c.play_record.ensures.gives in
    record { gives = e; keeps = called-keeps a.table.now a.s a.calls.now e; promise = promise3 a.table.now }
