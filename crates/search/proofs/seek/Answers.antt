-- All tasks by root first, where the edition seeks so, then all by affinity.
use Prim.Native.Nat.{ℕ}
use mathlib.Core.Path.{◌≡◌, refl, sym}
use mathlib.Core.Bool.{true, ◌||◌}
use lib.Dec.{eqb}
use lib.ListN.{length, take}
use lib.Seq.{length-take-le}
use native.Mathlib.Omega.{arith}
use borrow.Author.Rules.{rules}
use Rattle.model.specs.Search.{akin, seeks_by_root}
use Rattle.session.specs.Stored.{view}
use Rattle.session.proofs.StoredLaws.{sound-blank, blank-few}
use Rattle.search.proofs.Roots.{found-root, found-affinity, roots-for}
use Rattle.search.proofs.Seeking.{place_in, places-few, sought-root, sought-none, sought-kin}
use Rattle.search.proofs.seek.Goals as goal

pub slice_bounds-stored-end : goal.slice_bounds-stored-end
slice_bounds-stored-end c =
    let l : length c.roots_of-stored.result ≡ 16 = search rules in
    let few = blank-few c.args.s (sound-blank _ _ c.requires.ready.sound) in
    omega arith

pub slice_bounds-roots-end : goal.slice_bounds-roots-end
slice_bounds-roots-end c =
    let l : length c.roots_of-stored.result ≡ 16 = search rules in
    let few = blank-few c.args.s (sound-blank _ _ c.requires.ready.sound) in
    sym (length-take-le c.args.s.n c.roots_of-stored.result (omega arith))

pub by_root_in-root-requires : goal.by_root_in-root-requires
by_root_in-root-requires c = roots-for c.args.table.now c.args.s c.args.b c.requires c.roots_of-stored.ensures

pub by_affinity-kin-requires : goal.by_affinity-kin-requires
by_affinity-kin-requires c = roots-for c.args.table.now c.args.s c.args.b c.requires c.roots_of-stored.ensures

pub returns-then-root-alone : goal.returns-then-root-alone
returns-then-root-alone c =
    let a = c.args in
    let tb = a.table.now in
    let root = c.by_root_in-root in
    let is : root.result ≡ place_in a.b (view a.s).tasks tb a.s.edition a.alone =
    rw (← (found-root a.s a.b c.roots_of-stored.ensures refl)) root.ensures in
    let few = (roots-for tb a.s a.b c.requires c.roots_of-stored.ensures).few in
    sought-root a.b (view a.s).tasks tb a.s.edition a.alone root.result is c.if-root-alone.true
    (places-few (a.alone || seeks_by_root tb a.s.edition a.b) (λ (x : ℕ). eqb x a.b) (take a.s.n c.roots_of-stored.result) few root.ensures)

pub returns-then-kin-eq0 : goal.returns-then-kin-eq0
returns-then-kin-eq0 c =
    let a = c.args in
    let tb = a.table.now in
    let root = c.by_root_in-root in
    let is : root.result ≡ place_in a.b (view a.s).tasks tb a.s.edition a.alone =
    rw (← (found-root a.s a.b c.roots_of-stored.ensures refl)) root.ensures in
    let kin = found-affinity a.s a.b c.roots_of-stored.ensures tb c.by_affinity-kin.ensures in
    sought-none a.b (view a.s).tasks tb a.s.edition a.alone root.result is c.if-root-alone.false kin c.if-kin-eq0.true

pub overflow_add-result : goal.overflow_add-result
overflow_add-result c =
    let a = c.args in
    let few = (roots-for a.table.now a.s a.b c.requires c.roots_of-stored.ensures).few in
    let kin = places-few true (akin a.table.now a.b) (take a.s.n c.roots_of-stored.result) few c.by_affinity-kin.ensures in
    omega arith

pub returns : goal.returns
returns c =
    let a = c.args in
    let tb = a.table.now in
    let root = c.by_root_in-root in
    let is : root.result ≡ place_in a.b (view a.s).tasks tb a.s.edition a.alone =
    rw (← (found-root a.s a.b c.roots_of-stored.ensures refl)) root.ensures in
    let kin = found-affinity a.s a.b c.roots_of-stored.ensures tb c.by_affinity-kin.ensures in
    sought-kin a.b (view a.s).tasks tb a.s.edition a.alone root.result is c.if-root-alone.false c.by_affinity-kin.result kin c.if-kin-eq0.false
