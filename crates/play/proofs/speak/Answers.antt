-- In each manner.
use Prim.Native.Nat.{◌+◌, ◌≤◌}
use mathlib.Core.Path.{◌≡◌, refl, sym, ◌∙◌, ap, subst}
use mathlib.Core.Bool.{Bool}
use native.Mathlib.Omega.{arith}
use lib.ListN.{length}
use Rattle.model.proofs.WrittenLaws.{written-nil}
use Rattle.std.specs.Prelude.{Result, Ok, Err}
use Rattle.std.specs.Result.{result_unwrap_or}
use Rattle.model.specs.declared.Refusal.{Refusal}
use Rattle.model.specs.Refusals.{numbered}
use Rattle.tally.specs.declared.Tally.{Tally}
use Rattle.tally.specs.Tallies.{Added, added_as}
use Rattle.reasons.specs.StoredReasons.{reason_made}
use Rattle.play.specs.declared.Manner.{Manner}
use Rattle.play.specs.Manners.{record_said, said, longest_said}
use Rattle.play.proofs.Tags.{tells-reasons}
use Rattle.play.proofs.speak.Goals as goal

pub write_line-end-requires : goal.write_line-end-requires
write_line-end-requires c =
    subst (λ (m : Manner). c.args.at + longest_said m ≤ length c.args.out.now) c.in-Lines.is c.requires

pub write_record-end-requires : goal.write_record-end-requires
write_record-end-requires c =
    let k = tells-reasons c.args.manner c.in-Reasons.is in
    rw k.longest at c.requires

-- a refused answer leaves the tally
kept : (t : Tally) (r : Result Tally Refusal) {u : Tally} → u ≡ result_unwrap_or r t → u ≡ (added_as t r).tally
kept t (Ok next) e = e
kept t (Err n) e = e

pub returns-in-Heights : goal.returns-in-Heights
returns-in-Heights c =
    let a = c.args in
    rw c.in-Heights.is
    (record { place = omega arith; text = sym (written-nil a.out.now a.at); bound = omega arith; tally = kept a.tally c.add.result c.unwrap_or-t.ensures ∙ ap (λ (x : Added). x.tally) c.add.ensures.step })

pub returns-in-Lines : goal.returns-in-Lines
returns-in-Lines c =
    let e = c.write_line-end.ensures in
    rw c.in-Lines.is (record { place = e.place; text = e.text; bound = e.bound; tally = refl })

pub returns-in-Reasons : goal.returns-in-Reasons
returns-in-Reasons c =
    let e = c.write_record-end.ensures in
    let words = c.in_words in
    let a = c.args in
    let x = reason_made (numbered a.decided) in
    let k = tells-reasons a.manner c.in-Reasons.is in
    let f : said a.manner a.kind a.answer x ≡ record_said words.result a.kind a.answer x =
    k.text a.kind a.answer x ∙ ap (λ (b : Bool). record_said b a.kind a.answer x) (sym words.ensures) in
    rw (f, k.longest) (record { place = e.place; text = e.text; bound = e.bound; tally = sym (k.tally a.tally a.answer) })
