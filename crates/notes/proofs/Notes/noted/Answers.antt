-- The three ways: nothing new, the first one, one more.
use mathlib.Core.Bool.{not}
use mathlib.Core.Path.{ap}
use borrow.Author.Tests.{not-true, not-false}
use Rattle.notes.proofs.Noting.{noted-none, noted-first, noted_more}
use Rattle.notes.proofs.Notes.noted.Goals as goal

pub returns-then-not-met : goal.returns-then-not-met
returns-then-not-met c = let a = c.args in noted-none a.met a.place a.self (not-true _ (ap not c.if-not-met.true))

pub returns-then-self-eq0 : goal.returns-then-self-eq0
returns-then-self-eq0 c = let a = c.args in noted-first a.met a.place a.self (not-false _ (ap not c.if-not-met.false)) c.if-self-eq0.true

pub returns : goal.returns
returns c = let a = c.args in noted_more a.met a.place a.self (not-false _ (ap not c.if-not-met.false)) c.if-self-eq0.false
