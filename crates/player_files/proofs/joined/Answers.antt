-- The three ways: nothing new, nothing before, both.
use mathlib.Core.Path.{refl}
use native.Mathlib.Omega.{arith}
use Rattle.player_files.proofs.Restoring.{joined-none, joined-first, joined-both}
use Rattle.player_files.proofs.joined.Goals as goal

pub returns-then-then-eq0 : goal.returns-then-then-eq0
returns-then-then-eq0 c =
    let a = c.args in
    record { both = joined-none a.others {n = a.met} {t = a.then} c.if-then-eq0.true; sum = omega (arith, c.if-then-eq0.true) }

pub returns-then-met-eq0 : goal.returns-then-met-eq0
returns-then-met-eq0 c =
    let a = c.args in
    record { both = joined-first a.others {n = a.met} {t = a.then} c.if-met-eq0.true c.if-then-eq0.false; sum = omega (arith, c.if-met-eq0.true) }

pub returns : goal.returns
returns c =
    let a = c.args in
    record { both = joined-both a.others {n = a.met} {t = a.then} c.if-met-eq0.false; sum = refl }
