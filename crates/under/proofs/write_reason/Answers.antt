-- Two spaces, four numbers, and then the newline or the sentence before it.
use mathlib.Core.Path.{ap}
use mathlib.Core.Bool.{true, false, not}
use mathlib.Core.List.{[], ◌∷◌, ◌++◌}
use native.Mathlib.Omega.{arith}
use lib.ListN.{length-set}
use borrow.Author.Tests.{not-true, not-false}
use Rattle.model.specs.Texts.{ascii}
use Rattle.model.specs.Player.{space, newline, decimal}
use Rattle.model.specs.Sentences.{sentence_of, longest_sentence}
use Rattle.model.specs.Explained.{reason_line}
use Rattle.model.proofs.WrittenLaws.{Wrote, wrote, wrote_one, wrote-append}
use Rattle.line.proofs.LineLaws.{number_behind}
use Rattle.under.proofs.write_reason.Goals as goal

pub returns-then-not-words : goal.returns-then-not-words
unfolding reason_line
returns-then-not-words c =
    let r = c.args.r in
    let w1 : Wrote c.args.out.now c.args.at (ascii "  ") c.write_text-at.new.out c.write_text-at.result =
    record { place = c.write_text-at.ensures.place; text = c.write_text-at.ensures.bytes } in
    let w2 : Wrote c.write_text-at.new.out c.write_text-at.result (decimal r.refusal ++ space ∷ []) c.write_decimal-at.new.out c.write_decimal-at.result =
    wrote 4 (c.write_decimal-at.ensures.place, (c.write_decimal-at.ensures.text, c.write_decimal-at.ensures.bound)) in
    let w3 : Wrote c.write_decimal-at.new.out c.write_decimal-at.result (decimal r.rule ++ space ∷ []) c.write_decimal-at-2.new.out c.write_decimal-at-2.result =
    wrote 4 (c.write_decimal-at-2.ensures.place, (c.write_decimal-at-2.ensures.text, c.write_decimal-at-2.ensures.bound)) in
    let w4 : Wrote c.write_decimal-at-2.new.out c.write_decimal-at-2.result (decimal r.place ++ space ∷ []) c.write_decimal-at-3.new.out c.write_decimal-at-3.result =
    wrote 4 (c.write_decimal-at-3.ensures.place, (c.write_decimal-at-3.ensures.text, c.write_decimal-at-3.ensures.bound)) in
    let w5 : Wrote c.write_decimal-at-3.new.out c.write_decimal-at-3.result (decimal r.found ++ newline ∷ []) c.write_decimal.new.out c.write_decimal.result =
    wrote 4 (c.write_decimal.ensures.place, (c.write_decimal.ensures.text, c.write_decimal.ensures.bound)) in
    let all : Wrote c.args.out.now c.args.at (reason_line false r) c.write_decimal.new.out c.write_decimal.result =
    number_behind r.found newline (number_behind r.place space (number_behind r.rule space (number_behind r.refusal space
    w1 (omega arith) w2) (omega arith) w3) (omega arith) w4) (omega arith) w5 in
    rw (not-true c.args.words (ap not c.if-not-words.true)) record { place = all.place; text = all.text; bound = omega arith }

pub shape_of-out : goal.shape_of-out
shape_of-out c = simp length-set (omega arith)

pub returns : goal.returns
unfolding reason_line
returns c =
    let r = c.args.r in
    let w1 : Wrote c.args.out.now c.args.at (ascii "  ") c.write_text-at.new.out c.write_text-at.result =
    record { place = c.write_text-at.ensures.place; text = c.write_text-at.ensures.bytes } in
    let w2 : Wrote c.write_text-at.new.out c.write_text-at.result (decimal r.refusal ++ space ∷ []) c.write_decimal-at.new.out c.write_decimal-at.result =
    wrote 4 (c.write_decimal-at.ensures.place, (c.write_decimal-at.ensures.text, c.write_decimal-at.ensures.bound)) in
    let w3 : Wrote c.write_decimal-at.new.out c.write_decimal-at.result (decimal r.rule ++ space ∷ []) c.write_decimal-at-2.new.out c.write_decimal-at-2.result =
    wrote 4 (c.write_decimal-at-2.ensures.place, (c.write_decimal-at-2.ensures.text, c.write_decimal-at-2.ensures.bound)) in
    let w4 : Wrote c.write_decimal-at-2.new.out c.write_decimal-at-2.result (decimal r.place ++ space ∷ []) c.write_decimal-at-3.new.out c.write_decimal-at-3.result =
    wrote 4 (c.write_decimal-at-3.ensures.place, (c.write_decimal-at-3.ensures.text, c.write_decimal-at-3.ensures.bound)) in
    let w5 : Wrote c.write_decimal-at-3.new.out c.write_decimal-at-3.result (decimal r.found ++ space ∷ []) c.write_decimal-at-4.new.out c.write_decimal-at-4.result =
    wrote 4 (c.write_decimal-at-4.ensures.place, (c.write_decimal-at-4.ensures.text, c.write_decimal-at-4.ensures.bound)) in
    let w6 : Wrote c.write_decimal-at-4.new.out c.write_decimal-at-4.result (sentence_of r) c.write_sentence-at.new.out c.write_sentence-at.result =
    wrote longest_sentence (c.write_sentence-at.ensures.place, (c.write_sentence-at.ensures.text, c.write_sentence-at.ensures.bound)) in
    let w7 = wrote_one c.write_sentence-at.new.out c.write_sentence-at.result newline (omega arith) in
    let all : Wrote c.args.out.now c.args.at (reason_line true r) _ _ =
    wrote-append (wrote-append (number_behind r.found space (number_behind r.place space (number_behind r.rule space
    (number_behind r.refusal space w1 (omega arith) w2) (omega arith) w3) (omega arith) w4) (omega arith) w5) (omega arith) w6) (omega arith) w7 in
    rw (not-false c.args.words (ap not c.if-not-words.false)) record { place = all.place; text = all.text; bound = omega arith }
