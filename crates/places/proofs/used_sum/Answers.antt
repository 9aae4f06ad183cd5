-- Each test is a part of what the definition comes to: a failed one refutes it. In the end the sum is that of plain
-- screens, or of the root alone.
use mathlib.Core.Path.{◌≡◌, sym, ◌∙◌, ap}
use mathlib.Core.Bool.{Bool, true, false}
use mathlib.Core.List.{◌∷◌, []}
use native.Mathlib.Omega.{arith}
use lib.ListN.{length, get_or, take}
use lib.Seq.{take-suc}
use borrow.Author.Rules.{rules}
use Rattle.std.specs.Prelude.{if◌then◌else◌}
use Rattle.model.specs.Table.{is_single_instance}
use Rattle.model.proofs.Logic.{refuted, same_test, contradiction}
use Rattle.model.proofs.Tables.{good-shaped}
use Rattle.session.proofs.TaskLaws.{view-screen}
use Rattle.places.specs.PlaceTests.{total, no_sum, plain_sum, used_sum}
use Rattle.places.proofs.TaskFits.{task-fits}
use Rattle.places.proofs.used_sum.Goals as goal

pub size-requires : goal.size-requires
size-requires c = let g = good-shaped c.args.table.now c.requires in omega arith

pub returns-then-root-size : goal.returns-then-root-size
unfolding used_sum
returns-then-root-size c =
    let a = c.args in
    let l : length a.t.screens ≡ 32 = search rules in
    rw (refuted _ (task-fits a.table.now a.t l) (λ f. omega arith))

pub returns-then-h-lt1 : goal.returns-then-h-lt1
unfolding used_sum
returns-then-h-lt1 c =
    let a = c.args in
    let l : length a.t.screens ≡ 32 = search rules in
    rw (refuted _ (task-fits a.table.now a.t l) (λ f. omega arith))

pub returns-then-h-gt-SCREENS : goal.returns-then-h-gt-SCREENS
unfolding used_sum
returns-then-h-gt-SCREENS c =
    let a = c.args in
    let l : length a.t.screens ≡ 32 = search rules in
    rw (refuted _ (task-fits a.table.now a.t l) (λ f. omega arith))

pub is_single_instance-requires : goal.is_single_instance-requires
is_single_instance-requires c =
    let g = good-shaped c.args.table.now c.requires in
    omega arith

pub returns-then-not-is_single_instance : goal.returns-then-not-is_single_instance
unfolding plain_sum used_sum
returns-then-not-is_single_instance c =
    let a = c.args in
    let t = a.t in
    let tb = a.table.now in
    let l : length t.screens ≡ 32 = search rules in
    let x : is_single_instance tb t.root ≡ false = sym c.is_single_instance.ensures ∙ c.if-not-is_single_instance.true in
    let xs = take t.height t.screens in
    (rw c.from-h.ensures at c.plain_sum.ensures)
    ∙ ap (λ (b : Bool). if b then total xs else no_sum)
    (same_test
    (record {
      holds = λ e. record { known = omega arith; filled = omega arith; low = omega arith; lone = λ y. contradiction y x; plain = λ y. e };
      shows = λ f. f.plain x;
    })
    (task-fits tb t l))

pub returns-then-h-gt1 : goal.returns-then-h-gt1
unfolding used_sum
returns-then-h-gt1 c =
    let a = c.args in
    let l : length a.t.screens ≡ 32 = search rules in
    let x : is_single_instance a.table.now a.t.root ≡ true = sym c.is_single_instance.ensures ∙ c.if-not-is_single_instance.false in
    rw (refuted _ (task-fits a.table.now a.t l) (λ f. let h = (f.lone x).0 in omega arith))

pub returns-then-top-root : goal.returns-then-top-root
unfolding used_sum
returns-then-top-root c =
    let a = c.args in
    let l : length a.t.screens ≡ 32 = search rules in
    let x : is_single_instance a.table.now a.t.root ≡ true = sym c.is_single_instance.ensures ∙ c.if-not-is_single_instance.false in
    let e = c.top.ensures ∙ view-screen a.t (omega arith) 0 0 (omega arith) in
    rw (refuted _ (task-fits a.table.now a.t l) (λ f. c.if-top-root.true (e ∙ (f.lone x).1)))

pub returns : goal.returns
unfolding used_sum
returns c =
    let a = c.args in
    let t = a.t in
    let tb = a.table.now in
    let l : length t.screens ≡ 32 = search rules in
    let h : t.height ≡ 1 = omega arith in
    let x : is_single_instance tb t.root ≡ true = sym c.is_single_instance.ensures ∙ c.if-not-is_single_instance.false in
    let e : get_or t.screens 0 0 ≡ t.root = sym (c.top.ensures ∙ view-screen t (omega arith) 0 0 (omega arith)) ∙ c.if-top-root.false in
    let u = (task-fits tb t l).shows (record {
      known = omega arith;
      filled = omega arith;
      low = omega arith;
      lone = λ y. (h, e);
      plain = λ y. contradiction x y;
    }) in
    let f : take 1 t.screens ≡ get_or t.screens 0 0 ∷ [] = take-suc t.screens 0 0 (omega arith) in
    rw (u, h, f, e) (omega arith)
