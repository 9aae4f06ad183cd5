-- Each number has its sentence, and any other none.
use mathlib.Core.Path.{refl, sym}
use Rattle.model.specs.Sentences.{rule_sentence}
use Rattle.sentences.proofs.Sayings.{no-rule}
use Rattle.sentences.proofs.rule_sentence.Goals as goal

pub returns-in-1-clause-sentence : goal.returns-in-1-clause-sentence
unfolding rule_sentence
returns-in-1-clause-sentence c = rw c.in-1.is refl

pub returns-in-2-clause-sentence : goal.returns-in-2-clause-sentence
unfolding rule_sentence
returns-in-2-clause-sentence c = rw c.in-2.is refl

pub returns-in-3-clause-sentence : goal.returns-in-3-clause-sentence
unfolding rule_sentence
returns-in-3-clause-sentence c = rw c.in-3.is refl

pub returns-in-4-clause-sentence : goal.returns-in-4-clause-sentence
unfolding rule_sentence
returns-in-4-clause-sentence c = rw c.in-4.is refl

pub returns-in-5-clause-sentence : goal.returns-in-5-clause-sentence
unfolding rule_sentence
returns-in-5-clause-sentence c = rw c.in-5.is refl

pub returns-in-6-clause-sentence : goal.returns-in-6-clause-sentence
unfolding rule_sentence
returns-in-6-clause-sentence c = rw c.in-6.is refl

pub returns-in-7-clause-sentence : goal.returns-in-7-clause-sentence
unfolding rule_sentence
returns-in-7-clause-sentence c = rw c.in-7.is refl

pub returns-in-8-clause-sentence : goal.returns-in-8-clause-sentence
unfolding rule_sentence
returns-in-8-clause-sentence c = rw c.in-8.is refl

pub returns-in-9-clause-sentence : goal.returns-in-9-clause-sentence
unfolding rule_sentence
returns-in-9-clause-sentence c = rw c.in-9.is refl

pub returns-in-10-clause-sentence : goal.returns-in-10-clause-sentence
unfolding rule_sentence
returns-in-10-clause-sentence c = rw c.in-10.is refl

pub returns-in-11-clause-sentence : goal.returns-in-11-clause-sentence
unfolding rule_sentence
returns-in-11-clause-sentence c = rw c.in-11.is refl

pub returns-in-12-clause-sentence : goal.returns-in-12-clause-sentence
unfolding rule_sentence
returns-in-12-clause-sentence c = rw c.in-12.is refl

pub returns-in-13-clause-sentence : goal.returns-in-13-clause-sentence
unfolding rule_sentence
returns-in-13-clause-sentence c = rw c.in-13.is refl

pub returns-in-14-clause-sentence : goal.returns-in-14-clause-sentence
unfolding rule_sentence
returns-in-14-clause-sentence c = rw c.in-14.is refl

pub returns-in-15-clause-sentence : goal.returns-in-15-clause-sentence
unfolding rule_sentence
returns-in-15-clause-sentence c = rw c.in-15.is refl

pub returns-in-16-clause-sentence : goal.returns-in-16-clause-sentence
unfolding rule_sentence
returns-in-16-clause-sentence c = rw c.in-16.is refl

pub returns-in-17-clause-sentence : goal.returns-in-17-clause-sentence
unfolding rule_sentence
returns-in-17-clause-sentence c = rw c.in-17.is refl

pub returns-in-18-clause-sentence : goal.returns-in-18-clause-sentence
unfolding rule_sentence
returns-in-18-clause-sentence c = rw c.in-18.is refl

pub returns-in_default-clause-sentence : goal.returns-in_default-clause-sentence
returns-in_default-clause-sentence c =
    sym (no-rule c.args.rule c.in_default.in_default-own.rest)
