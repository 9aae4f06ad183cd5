-- A root is the one sought, or the search goes on behind it.
use Prim.Native.Nat.{◌<◌}
use mathlib.Core.Path.{sym, ◌∙◌}
use native.Mathlib.Omega.{arith}
use lib.ListN.{get_or}
use Rattle.model.specs.Search.{akin}
use Rattle.model.specs.Table.{size_of}
use Rattle.model.proofs.Logic.{All-at}
use Rattle.model.proofs.Tables.{good-shaped}
use Rattle.search.proofs.Roots.{akin-test}
use Rattle.search.proofs.Steps.{find-begin, find-here, find-next}
use Rattle.search.proofs.by_affinity.Goals as goal

pub affinity-affinity-requires : goal.affinity-affinity-requires
affinity-affinity-requires c =
    let g = good-shaped c.args.table.now c.requires.good in
    let k = c.requires.known in
    omega arith

pub loop-i-init : goal.loop-i-init
loop-i-init c = (omega arith, find-begin (akin c.args.table.now c.args.b) c.args.roots.now)

pub affinity-requires : goal.affinity-requires
affinity-requires c =
    let roots = c.args.roots.now in
    let g = good-shaped c.args.table.now c.requires.good in
    let k : get_or roots c.loop-i.i 0 < size_of c.args.table.now = All-at (λ x. x < size_of c.args.table.now) roots c.loop-i.i 0 (omega arith) c.requires.each in
    omega arith

pub is_single_instance-requires : goal.is_single_instance-requires
is_single_instance-requires c =
    let roots = c.args.roots.now in
    let g = good-shaped c.args.table.now c.requires.good in
    let k : get_or roots c.loop-i.i 0 < size_of c.args.table.now = All-at (λ x. x < size_of c.args.table.now) roots c.loop-i.i 0 (omega arith) c.requires.each in
    omega arith

pub loop-i-preserved : goal.loop-i-preserved
loop-i-preserved c =
    let a = c.args in
    let q = akin a.table.now a.b in
    let t = akin-test a.table.now a.b (get_or a.roots.now c.loop-i.i 0) c.is_single_instance.ensures c.affinity.ensures c.affinity-affinity.ensures in
    (omega arith, c.loop-i.invariant.1 ∙ find-next q a.roots.now c.loop-i.i 0 (omega arith) (t ∙ c.if-affinity-is_single_instance.false))

pub returns-then-affinity-is_single_instance : goal.returns-then-affinity-is_single_instance
returns-then-affinity-is_single_instance c =
    let a = c.args in
    let q = akin a.table.now a.b in
    let t = akin-test a.table.now a.b (get_or a.roots.now c.loop-i.i 0) c.is_single_instance.ensures c.affinity.ensures c.affinity-affinity.ensures in
    sym (c.loop-i.invariant.1 ∙ find-here q a.roots.now c.loop-i.i 0 (omega arith) (t ∙ c.if-affinity-is_single_instance.true))
