-- A loop over the screens. Invariant: the sum so far and the screens from i on decide.
use mathlib.Core.Path.{◌≡◌, refl, sym, ◌∙◌}
use mathlib.Core.Bool.{true, false}
use native.Mathlib.Omega.{arith}
use lib.Dec.{ltb}
use lib.ListN.{length, get_or, take}
use borrow.Author.Tests.{lt-ltb, le-ltb}
use borrow.Author.Rules.{rules}
use Rattle.model.specs.Table.{size_of, is_single_instance}
use Rattle.model.proofs.Tables.{good-shaped}
use Rattle.model.proofs.Walks.{all-fail, all-next, all_end}
use Rattle.places.specs.PlaceTests.{plain_screen, plain_sum}
use Rattle.places.proofs.Adding.{total-step, total-end}
use Rattle.places.proofs.plain_sum.Goals as goal

pub size-size-requires : goal.size-size-requires
size-size-requires c = let g = good-shaped c.args.table.now c.requires.0 in omega arith

pub loop-x-init : goal.loop-x-init
loop-x-init c = record { low = omega arith; sum = omega arith; plain = refl }

pub returns-then-x-size : goal.returns-then-x-size
unfolding plain_screen plain_sum
returns-then-x-size c =
    let a = c.args in
    let l : length a.t.screens ≡ 32 = search rules in
    let o = c.loop-x in
    let tb = a.table.now in
    let xs = take a.h a.t.screens in
    let e : ltb (get_or xs o.x-index 0) (size_of tb) ≡ false = le-ltb _ (size_of tb) (omega arith) in
    rw (o.invariant.plain ∙ all-fail (plain_screen tb) xs o.x-index 0 (omega arith) (rw e))

pub is_single_instance-requires : goal.is_single_instance-requires
is_single_instance-requires c = let g = good-shaped c.args.table.now c.requires.0 in omega arith

pub returns-then-is_single_instance : goal.returns-then-is_single_instance
unfolding plain_screen plain_sum
returns-then-is_single_instance c =
    let a = c.args in
    let o = c.loop-x in
    let tb = a.table.now in
    let xs = take a.h a.t.screens in
    let e : ltb (get_or xs o.x-index 0) (size_of tb) ≡ true = lt-ltb _ (size_of tb) (omega arith) in
    let f : is_single_instance tb (get_or xs o.x-index 0) ≡ true = sym c.is_single_instance.ensures ∙ c.if-is_single_instance.true in
    rw (o.invariant.plain ∙ all-fail (plain_screen tb) xs o.x-index 0 (omega arith) (rw (e, f)))

pub overflow_add-sum : goal.overflow_add-sum
overflow_add-sum c = let g = good-shaped c.args.table.now c.requires.0 in omega arith

pub loop-x-preserved : goal.loop-x-preserved
unfolding plain_screen
loop-x-preserved c =
    let a = c.args in
    let o = c.loop-x in
    let tb = a.table.now in
    let xs = take a.h a.t.screens in
    let e : ltb (get_or xs o.x-index 0) (size_of tb) ≡ true = lt-ltb _ (size_of tb) (omega arith) in
    let f : is_single_instance tb (get_or xs o.x-index 0) ≡ false = sym c.is_single_instance.ensures ∙ c.if-is_single_instance.false in
    let s = total-step xs o.x-index (omega arith) in
    let g = good-shaped tb c.requires.0 in
    record {
      low = omega arith;
      sum = omega arith;
      plain = o.invariant.plain ∙ all-next (plain_screen tb) xs o.x-index 0 (omega arith) (rw (e, f));
    }

pub returns : goal.returns
unfolding plain_sum
returns c =
    let a = c.args in
    let o = c.loop-x in
    let xs = take a.h a.t.screens in
    let s = total-end xs o.x-index (omega arith) in
    rw (o.invariant.plain ∙ all_end (plain_screen a.table.now) xs o.x-index (omega arith)) (omega arith)
