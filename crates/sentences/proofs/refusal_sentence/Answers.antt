-- Each number has its sentence, and any other none.
use mathlib.Core.Path.{refl, sym}
use Rattle.model.specs.Sentences.{refusal_sentence}
use Rattle.sentences.proofs.Sayings.{no-refusal}
use Rattle.sentences.proofs.refusal_sentence.Goals as goal

pub returns-in-1-clause-sentence : goal.returns-in-1-clause-sentence
unfolding refusal_sentence
returns-in-1-clause-sentence c = rw c.in-1.is refl

pub returns-in-2-clause-sentence : goal.returns-in-2-clause-sentence
unfolding refusal_sentence
returns-in-2-clause-sentence c = rw c.in-2.is refl

pub returns-in-3-clause-sentence : goal.returns-in-3-clause-sentence
unfolding refusal_sentence
returns-in-3-clause-sentence c = rw c.in-3.is refl

pub returns-in-4-clause-sentence : goal.returns-in-4-clause-sentence
unfolding refusal_sentence
returns-in-4-clause-sentence c = rw c.in-4.is refl

pub returns-in-9-clause-sentence : goal.returns-in-9-clause-sentence
unfolding refusal_sentence
returns-in-9-clause-sentence c = rw c.in-9.is refl

pub returns-in-20-clause-sentence : goal.returns-in-20-clause-sentence
unfolding refusal_sentence
returns-in-20-clause-sentence c = rw c.in-20.is refl

pub returns-in-21-clause-sentence : goal.returns-in-21-clause-sentence
unfolding refusal_sentence
returns-in-21-clause-sentence c = rw c.in-21.is refl

pub returns-in-23-clause-sentence : goal.returns-in-23-clause-sentence
unfolding refusal_sentence
returns-in-23-clause-sentence c = rw c.in-23.is refl

pub returns-in-24-clause-sentence : goal.returns-in-24-clause-sentence
unfolding refusal_sentence
returns-in-24-clause-sentence c = rw c.in-24.is refl

pub returns-in_default-clause-sentence : goal.returns-in_default-clause-sentence
returns-in_default-clause-sentence c =
    let n = c.in_default.in_default-own.rest in
    sym (no-refusal c.args.refusal n.0.0.0.0.0.0.0.0.1 n.0.0.0.0.0.0.0.1 n.0.0.0.0.0.0.1 n.0.0.0.0.0.1 n.0.0.0.0.1 n.0.0.0.1 n.0.0.1 n.0.1 n.1)
