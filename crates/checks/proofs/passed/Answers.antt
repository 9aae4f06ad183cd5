-- The checks pass a session that is sound under a good table.
use mathlib.Core.Path.{sym}
use Rattle.checks.proofs.SharedLaws.{shared-passed}
use Rattle.checks.proofs.passed.Goals as goal

pub invariant_of-result : goal.invariant_of-result
invariant_of-result c =
    record { says = sym (shared-passed c.args.table.now c.args.session.now c.requires.good c.requires.sound) }
