-- A load that is refused before a byte is written, or as many records as fit.
use mathlib.Core.Path.{sym}
use native.Mathlib.Omega.{arith}
use Rattle.model.specs.Refusals.{refusal_number}
use Rattle.model.specs.Table.{size_of}
use Rattle.model.proofs.Tables.{good-shaped}
use Rattle.model.proofs.RefusalLaws.{number-some}
use Rattle.loads.proofs.LoadLaws.{load-taken, load-refused, load-done, filled-written}
use Rattle.loads.proofs.Clauses.{load-clauses}
use Rattle.loads.proofs.load.Goals as goal

pub returns-in-Err : goal.returns-in-Err
returns-in-Err c =
    let a = c.args in
    let r = c.in-Err.refusal in
    let e = load-refused a.table.now a.seed a.out.now (refusal_number r) c.in-Err.ensures (number-some r) in
    let l = load-clauses a.table.now a.seed a.out.now c.ranges.seed.fits (rw c.refuse.ensures (sym e)) in
    record { gives = l.0; goes_on = l.1.0; draws = l.1.1 }

pub size-requires : goal.size-requires
size-requires c =
    let t = load-taken c.args.table.now c.args.seed (sym c.in_default.ensures) in
    let s = (good-shaped c.args.table.now t.table).long in
    omega arith

pub fill-state-requires : goal.fill-state-requires
fill-state-requires c =
    let t = load-taken c.args.table.now c.args.seed (sym c.in_default.ensures) in
    let s = (good-shaped c.args.table.now t.table).some in
    let e = c.size.ensures in
    (omega arith, omega arith)

pub returns : goal.returns
returns c =
    let a = c.args in
    let f = c.fill-state.ensures in
    let n = c.size.ensures in
    let e = load-done a.table.now a.seed a.out.now (load-taken a.table.now a.seed (sym c.in_default.ensures)) in
    let l =
    load-clauses a.table.now a.seed a.out.now c.ranges.seed.fits
    (rw (f.state, f.bytes, n, filled-written (size_of a.table.now) a.seed a.out.now) (sym e)) in
    record { gives = l.0; goes_on = l.1.0; draws = l.1.1 }
