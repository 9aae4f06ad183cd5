-- What is promised of reports; no height is above 32, so the mean can be taken.
use borrow.Author.Rules.{rules}
use Rattle.tally.proofs.Checks.{tally-decides, tally-sum}
use Rattle.tally.proofs.TallyLaws.{reports-lists}
use Rattle.tally.proofs.GivenLaws.{knows-tallies}
use Rattle.tally.proofs.MeanLaws.{rounds-half-to-even}
use Rattle.tally.proofs.Tally.report.Goals as goal

pub returns-then-not-is_tally-clause-known : goal.returns-then-not-is_tally-clause-known
returns-then-not-is_tally-clause-known c = knows-tallies

pub returns-then-not-is_tally-clause-listed : goal.returns-then-not-is_tally-clause-listed
returns-then-not-is_tally-clause-listed c = reports-lists

pub returns-then-not-is_tally-clause-nearest : goal.returns-then-not-is_tally-clause-nearest
returns-then-not-is_tally-clause-nearest c = rounds-half-to-even

pub tenths-requires : goal.tenths-requires
tenths-requires c = let t = c.args.self in tally-sum t ((tally-decides t).holds (search rules))

pub returns-clause-known : goal.returns-clause-known
returns-clause-known c = knows-tallies

pub returns-clause-listed : goal.returns-clause-listed
returns-clause-listed c = reports-lists

pub returns-clause-nearest : goal.returns-clause-nearest
returns-clause-nearest c = rounds-half-to-even
