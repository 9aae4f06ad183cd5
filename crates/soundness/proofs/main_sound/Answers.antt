-- The tests are the definition's, in its order.
use native.Mathlib.Numerals.{sub-one}
use native.Mathlib.Omega.{arith}
use lib.ListN.{length}
use borrow.Author.Tests.{le-leb, lt-leb, eq-eqb, ne_eqb}
use Rattle.model.proofs.Tables.{good-shaped}
use Rattle.soundness.specs.Tests.{main_root_sound}
use Rattle.soundness.proofs.main_sound.Goals as goal

pub returns-then-place-roots : goal.returns-then-place-roots
unfolding main_root_sound
returns-then-place-roots c = rw (lt-leb c.args.m (length c.args.roots.now) (omega arith))

pub returns-then-place-eq0 : goal.returns-then-place-eq0
unfolding main_root_sound
returns-then-place-eq0 c = rw (le-leb c.args.m (length c.args.roots.now) (omega arith), eq-eqb c.args.m 0 (omega arith))

pub main_screen-requires : goal.main_screen-requires
main_screen-requires c = let g = good-shaped c.args.table.now c.requires in omega arith

pub returns : goal.returns
unfolding main_root_sound
returns c =
    let a = c.args in
    rw (
      le-leb a.m (length a.roots.now) (omega arith),
      ne_eqb a.m 0 (λ e. omega arith),
      ← sub-one a.m,
      ← c.from-place.ensures,
      ← c.main_screen.ensures,
    )
