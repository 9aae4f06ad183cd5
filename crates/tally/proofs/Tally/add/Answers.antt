-- What is promised of tallies.
use Rattle.tally.proofs.TallyLaws.{tallies-join}
use Rattle.tally.proofs.GivenLaws.{knows-tallies}
use Rattle.tally.proofs.Tally.add.Goals as goal

pub returns-then-not-takes-clause-known : goal.returns-then-not-takes-clause-known
returns-then-not-takes-clause-known c = knows-tallies

pub returns-then-not-takes-clause-joined : goal.returns-then-not-takes-clause-joined
returns-then-not-takes-clause-joined c = tallies-join

pub returns-clause-known : goal.returns-clause-known
returns-clause-known c = knows-tallies

pub returns-clause-joined : goal.returns-clause-joined
returns-clause-joined c = tallies-join
