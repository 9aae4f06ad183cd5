-- The texts, the number and the lines, each behind the one before it.
use Prim.Native.Nat.{◌+◌}
use mathlib.Core.Path.{◌≡◌, ◌∙◌}
use native.Mathlib.Nat.{zero-add}
use native.Mathlib.Omega.{arith}
use borrow.Author.Tests.{not-true, not-false}
use lib.ListN.{length}
use Rattle.model.specs.Player.{decimal, line_of, longest_line}
use Rattle.model.specs.Written.{written}
use Rattle.model.proofs.WrittenLaws.{Wrote, wrote, wrote-append}
use Rattle.endings.specs.Verdict.{alike_text, apart_text, backs_text, last_kind, apart_lines}
use Rattle.endings.proofs.Verdicts.{text-alike, text-apart}
use Rattle.endings.proofs.write_verdict.Goals as goal

pub returns-then-not-d : goal.returns-then-not-d
returns-then-not-d c =
    let e = text-alike c.args.d (not-true _ c.if-not-d.true) in
    let w = c.write_text in
    let place : w.result ≡ 0 + length alike_text = w.ensures.place in
    let text : w.new.out ≡ written c.args.out.now 0 alike_text = w.ensures.bytes in
    record { length = rw e place; text = rw e text; bound = omega arith }

pub returns : goal.returns
returns c =
    let out = c.args.out.now in
    let d = c.args.d in
    let e = text-apart d (not-false _ c.if-not-d.false) in
    let kind = c.last_kind-kind.ensures in
    let w1 : Wrote out 0 apart_text c.write_text-number.new.out c.write_text-number.result =
    record { place = c.write_text-number.ensures.place; text = c.write_text-number.ensures.bytes } in
    let w2 : Wrote c.write_text-number.new.out c.write_text-number.result (decimal d.backs) c.write_number-backs.new.out c.write_number-backs.result =
    wrote 3 (c.write_number-backs.ensures.place, (c.write_number-backs.ensures.bytes, c.write_number-backs.ensures.bound)) in
    let w3 : Wrote c.write_number-backs.new.out c.write_number-backs.result backs_text c.write_text-line.new.out c.write_text-line.result =
    record { place = c.write_text-line.ensures.place; text = c.write_text-line.ensures.bytes } in
    let w4 : Wrote c.write_text-line.new.out c.write_text-line.result (line_of (last_kind d.backs) d.first) c.write_line-next.new.out c.write_line-next.result =
    rw kind at (wrote longest_line (c.write_line-next.ensures.place, (c.write_line-next.ensures.text, c.write_line-next.ensures.bound))) in
    let w5 : Wrote c.write_line-next.new.out c.write_line-next.result (line_of (last_kind d.backs) d.second) c.write_line.new.out c.write_line.result =
    rw kind at (wrote longest_line (c.write_line.ensures.place, (c.write_line.ensures.text, c.write_line.ensures.bound))) in
    let all : Wrote out 0 (apart_lines d) c.write_line.new.out c.write_line.result =
    wrote-append (wrote-append (wrote-append (wrote-append w1 (omega arith) w2) (omega arith) w3) (omega arith) w4) (omega arith) w5 in
    record {
      length = rw e (all.place ∙ zero-add (length (apart_lines d)));
      text = rw e all.text;
      bound = omega arith;
    }
