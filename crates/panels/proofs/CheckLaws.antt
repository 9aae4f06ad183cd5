-- The count and the kinds of a step's operations, as the code tests them.
use Prim.Native.Nat.{ℕ, ◌≤◌, ◌<◌}
use mathlib.Core.Path.{◌≡◌, refl, ap}
use mathlib.Core.Bool.{Bool, true, false, not, ◌&&◌, ◌||◌}
use mathlib.Core.List.{List}
use lib.Dec.{eqb, leb, ltb}
use lib.ListN.{length, get_or}
use borrow.Author.Tests.{ltb-true, ltb-false, le-leb, lt-leb}
use Rattle.model.specs.Lists.{all}
use Rattle.panels.specs.Operations.{operation, operations_in, good_count, good_kind, good_operations}
use Rattle.panels.proofs.OperationLaws.{behind, operations-more, operations-short}

four : (a b c d e : Bool) → (((not a && not b) && not c) && not d) ≡ e → (a || (b || (c || d))) ≡ not e
four true b c d e f = ap not f
four false true c d e f = ap not f
four false false true d e f = ap not f
four false false false true e f = ap not f
four false false false false e f = ap not f

pub count-test : (n : ℕ) (b : Bool) → (((not (eqb n 2) && not (eqb n 4)) && not (eqb n 6)) && not (eqb n 8)) ≡ b → good_count n ≡ not b
unfolding good_count
count-test n b e = four (eqb n 2) (eqb n 4) (eqb n 6) (eqb n 8) b e

leb-ltb : (m n : ℕ) → leb m n ≡ not (ltb n m)
leb-ltb m n = go (ltb n m) refl
  where
    go : (b : Bool) → ltb n m ≡ b → leb m n ≡ not b
    go true e = lt-leb m n (ltb-true n m e)
    go false e = le-leb m n (ltb-false n m e)

two : (a b e : Bool) → (a || b) ≡ e → (not a && not b) ≡ not e
two true b e f = ap not f
two false b e f = ap not f

kind-test : (k p : ℕ) (b : Bool) → (ltb k 1 || ltb 3 k) ≡ b → good_kind (operation k p) ≡ not b
unfolding good_kind
kind-test k p b e = rw (leb-ltb 1 k, leb-ltb k 3) (two (ltb k 1) (ltb 3 k) b e)

pub count-bad : (l : List ℕ) → good_count (length l) ≡ false → false ≡ good_operations l
unfolding good_operations
count-bad l e = rw e

-- the kinds are good as far as the loop is
module _ (l : List ℕ) where
  abbrev bad_kind : Bool
  bad_kind = ltb (get_or l 0 0) 1 || ltb 3 (get_or l 0 0)

  pub kind-next : 2 ≤ length l → bad_kind ≡ false → all good_kind (operations_in l) ≡ all good_kind (operations_in (behind l))
  kind-next b e = rw (operations-more l b, kind-test (get_or l 0 0) (get_or l 1 0) false e)

  module _ (whole : List ℕ) (c : good_count (length whole) ≡ true) (v : all good_kind (operations_in whole) ≡ all good_kind (operations_in l)) where
    pub kind-bad : 2 ≤ length l → bad_kind ≡ true → false ≡ good_operations whole
    unfolding good_operations
    kind-bad b e = rw (c, v, operations-more l b, kind-test (get_or l 0 0) (get_or l 1 0) true e)

    pub kind-end : length l < 2 → true ≡ good_operations whole
    unfolding good_operations
    kind-end b = rw (c, v, operations-short l b)
