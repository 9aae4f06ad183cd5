-- The places are tested four by four, then the roots read there. Each test is a part of what the definition comes to: a
-- failed one refutes it, and the last three decide.
use Prim.Native.Nat.{ℕ}
use mathlib.Core.Path.{◌≡◌, sym, ◌∙◌, ap}
use mathlib.Core.Logic.{⊎_elim}
use mathlib.Core.Bool.{true, ◌&&◌, not}
use mathlib.Core.List.{List}
use native.Mathlib.Omega.{arith}
use lib.ListN.{length}
use lib.Seq.{length-take-le}
use borrow.Author.Rules.{rules}
use Rattle.model.specs.Lists.{all}
use Rattle.model.proofs.Logic.{refuted, same_test, contradiction, and_left, and_right}
use Rattle.model.proofs.Walks.{said-yes, said-no}
use Rattle.session.proofs.Known.{long}
use Rattle.places.specs.PlaceTests.{is_root}
use Rattle.soundness.proofs.Bytes.{sums-fit}
use Rattle.soundness.proofs.Fits.{session-fits}
use Rattle.soundness.proofs.Places.{Before, before-first, after-four, after-blanks, blanks-fail, roots-fail, each-sound, rest-blank, roots-read, read_known, edition-read, no-history-read}
use Rattle.soundness.proofs.sound.Statement.{statement}
use Rattle.soundness.proofs.sound.Tie as tie

-- what is known after the first four places, and after each four more

abbrev Known : tie.After-four_roots-roots → List ℕ → ℕ → Type 0
Known c roots k = let a = c.args in Before a.table.now a.s roots k

first : (c : tie.After-four_roots-roots) → Known c c.four_roots-roots.result 4
first c =
    let start = c.before.before.before.before.before.before.before.before.before in
    let l : length start.args.s.tasks ≡ 16 = search (rules, long) in
    after-four (before-first _ start.args.s start.requires (omega arith) l (sums-fit start.args.s _ start.well_formed.1.0)) (omega arith)
    c.four_roots-roots.ensures

second : (c : tie.Joined-n-gt4) → Known c.before c.if-n-gt4.roots 8
second c =
    let b = first c.before in
    ⊎_elim (λ w. after-four b (omega arith) (w.roots-is ∙ w.four_roots-next.ensures))
    (λ w. after-blanks b (omega arith) (omega arith) (said-yes w.blank_four.ensures (ap not w.if-not-blank_four.false)) w.roots-is) c.if-n-gt4.branch-raw

third : (c : tie.Joined-n-gt8) → Known c.before.before c.if-n-gt8.roots 12
third c =
    let b = second c.before in
    ⊎_elim (λ w. after-four b (omega arith) (w.roots-is ∙ w.four_roots-next-then-n-gt8.ensures))
    (λ w. after-blanks b (omega arith) (omega arith) (said-yes w.blank_four-else-n-gt8.ensures (ap not w.if-not-blank_four-2.false)) w.roots-is) c.if-n-gt8.branch-raw

fourth : (c : tie.Joined-n-gt12) → Known c.before.before.before c.if-n-gt12.roots 16
fourth c =
    let b = third c.before in
    ⊎_elim (λ w. after-four b (omega arith) (w.roots-is ∙ w.four_roots-next-then-n-gt12.ensures))
    (λ w. after-blanks b (omega arith) (omega arith) (said-yes w.blank_four-else-n-gt12.ensures (ap not w.if-not-blank_four-3.false)) w.roots-is) c.if-n-gt12.branch-raw

are-roots : (c : tie.Else-not-all_roots) → all is_root c.if-n-gt12.roots ≡ true
are-roots c = said-yes c.all_roots.ensures (ap not c.if-not-all_roots.false)

returns : tie.Need-returns-then-n-gt-TASKS
returns c = sym (refuted _ (session-fits _ _) (λ f. omega arith))

-- four places in which no task stands are not blank

returns-2 : tie.Need-returns-then-not-blank_four
returns-2 c =
    let test = c.before.before.before.before.before.before.before in
    sym (blanks-fail (first test) (omega arith) (omega arith) (said-no c.blank_four.ensures (ap not c.if-not-blank_four.true)))

returns-3 : tie.Need-returns-then-not-blank_four-2
returns-3 c =
    let test = c.before.before.before.before.before.before.before in
    sym (blanks-fail (second test) (omega arith) (omega arith) (said-no c.blank_four-else-n-gt8.ensures (ap not c.if-not-blank_four-2.true)))

returns-4 : tie.Need-returns-then-not-blank_four-3
returns-4 c =
    let test = c.before.before.before.before.before.before.before in
    sym (blanks-fail (third test) (omega arith) (omega arith) (said-no c.blank_four-else-n-gt12.ensures (ap not c.if-not-blank_four-3.true)))

returns-5 : tie.Need-returns-then-not-all_roots
returns-5 c = sym (roots-fail (fourth c.before.before) (said-no c.all_roots.ensures (ap not c.if-not-all_roots.true)))

standing-long : tie.Need-slice_bounds-standing-end
standing-long c =
    let b = fourth c.before.before.before in
    sym (length-take-le c.args.s.n c.if-n-gt12.roots (omega (arith, b.few, b.long)))

roots-differ-requires : tie.Need-roots_differ-requires
roots-differ-requires c κs = let b = fourth c.before.before.before in (b.good, read_known b (are-roots c.before))

returns-6 : tie.Need-returns-then-not-roots_differ
returns-6 c =
    let test = c.before.before.before in
    let e = rw (roots-read (fourth test.before.before) (are-roots test)) at (said-no c.roots_differ.ensures (ap not c.if-not-roots_differ.true)) in
    sym (refuted _ (session-fits _ _) (λ f. contradiction f.pairs e))

returns-7 : tie.Need-returns
returns-7 c =
    let left = c.before.before.before in
    let test = left.before.before.before in
    let b = fourth test.before.before in
    let y = are-roots test in
    let r = roots-read b y in
    let p = rw r at (said-yes left.roots_differ.ensures (ap not left.if-not-roots_differ.false)) in
    let main = c.main_sound.result in
    let edition = c.edition_sound.result in
    let m = rw r at c.main_sound.ensures in
    let d = c.edition_sound.ensures ∙ sym (edition-read b) in
    let h = c.no_history_sound.ensures ∙ sym (no-history-read b) in
    same_test
    (record {
      holds = λ e.
          record {
            few = b.few;
            each = each-sound b y;
            rest = rest-blank b y;
            pairs = p;
            place = sym m ∙ and_left main _ (and_left (main && edition) _ e);
            edition = sym d ∙ and_right main _ (and_left (main && edition) _ e);
            no_history = sym h ∙ and_right (main && edition) _ e;
          };
      shows = λ f. rw (m ∙ f.place, d ∙ f.edition, h ∙ f.no_history);
    })
    (session-fits _ _)

-- what is searched for: each place named is one of the 16, and what is called asks for nothing that is not known
pub sound_spec : {M : Type 1} → statement M
sound_spec =
    tie.close
    (tie.spec
    (λ c. search rules) returns (λ c. search rules) (λ c. search rules) (λ c. search rules) (λ c. search rules)
    (λ c κs. search rules) (λ c. search rules) (λ c. search rules) (λ c. search rules) (λ c. search rules)
    (λ c κs. search rules) (λ c. search rules) (λ c. search rules) (λ c. search rules) (λ c. search rules)
    (λ c κs. search rules) returns-2 (λ c. search rules) (λ c. search rules) (λ c. search rules) (λ c. search rules)
    (λ c κs. search rules) (λ c. search rules) (λ c. search rules) (λ c. search rules) (λ c. search rules)
    (λ c κs. search rules) returns-3 (λ c. search rules) (λ c. search rules) (λ c. search rules) (λ c. search rules)
    (λ c κs. search rules) (λ c. search rules) (λ c. search rules) (λ c. search rules) (λ c. search rules)
    (λ c κs. search rules) returns-4 (λ c κs. search rules) returns-5 (λ c. search rules) standing-long roots-differ-requires returns-6
    (λ c κs. search rules) (λ c κs. search rules) (λ c κs. search rules) returns-7)
