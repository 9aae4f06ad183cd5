-- One screen more is written behind those above it.
use Prim.Native.Nat.{◌+◌, ◌-◌}
use mathlib.Core.Path.{◌≡◌}
use mathlib.Core.List.{[], ◌∷◌, ◌++◌}
use native.Mathlib.Numerals.{add-one}
use native.Mathlib.Omega.{arith}
use lib.ListN.{length, get_or, take}
use lib.Seq.{take_all, take-suc}
use borrow.Author.Rules.{rules}
use Rattle.model.proofs.WrittenLaws.{wrote-nil, wrote_one, wrote-append, wrote-length}
use Rattle.session.specs.Stored.{view_task}
use Rattle.session.proofs.TaskLaws.{view-height, view-screen}
use Rattle.image.proofs.write_screens.Goals as goal

pub loop-i-init : goal.loop-i-init
loop-i-init c =
    let place : c.args.at + 0 ≡ c.args.at = omega arith in
    rw place (wrote-nil c.args.out.now c.args.at)

pub loop-i-preserved : goal.loop-i-preserved
loop-i-preserved c =
    let a = c.args in
    let i = c.loop-i.i in
    let m = a.t.height - 1 - i in
    let l : length a.t.screens ≡ 32 = search rules in
    let h = view-height a.t (omega arith) in
    let kept = wrote-length c.loop-i.invariant (omega arith) in
    let place : a.at + (i + 1) ≡ a.at + i + 1 = omega arith in
    let e : take (i + 1) (view_task a.t).screens ≡ take i (view_task a.t).screens ++ (get_or a.t.screens m 0 ∷ []) =
    rw (add-one i, take-suc (view_task a.t).screens i 0 (omega arith), view-screen a.t (omega arith) m i (omega arith)) in
    let w = wrote_one c.loop-i.out (a.at + i) (get_or a.t.screens m 0) (omega (arith, kept)) in
    rw (e, place) (wrote-append c.loop-i.invariant (omega arith) w)

pub returns : goal.returns
returns c =
    let a = c.args in
    let l : length a.t.screens ≡ 32 = search rules in
    let h = view-height a.t (omega arith) in
    let w = rw (take_all c.loop-i.i (view_task a.t).screens (omega arith)) at c.loop-i.invariant in
    record { place = omega arith; bytes = w.text; bound = omega arith }
