-- What was read is as long as the parts of the buffers that are lent.
use Rattle.std.proofs.Common.{ℕ, sym, length-take-le}
use lib.ListN.{length-replicate}
use Rattle.same_files.proofs.compare_named.Goals as goal

pub slice_bounds-load-end : goal.slice_bounds-load-end
slice_bounds-load-end g c = sym (length-replicate {A = ℕ} 1048576 0)

pub slice_bounds-load-end-2 : goal.slice_bounds-load-end-2
slice_bounds-load-end-2 g c = sym (length-replicate {A = ℕ} 1048576 0)

pub slice_bounds-first-end : goal.slice_bounds-first-end
slice_bounds-first-end g c = c.in-Some.ensures.bound

pub slice_bounds-tell-end : goal.slice_bounds-tell-end
slice_bounds-tell-end g c = sym (length-take-le _ _ c.in-Some.ensures.bound)

pub slice_bounds-second-end : goal.slice_bounds-second-end
slice_bounds-second-end g c = c.in-Some-load.ensures.bound

pub slice_bounds-tell-end-2 : goal.slice_bounds-tell-end-2
slice_bounds-tell-end-2 g c = sym (length-take-le _ _ c.in-Some-load.ensures.bound)

pub tell-requires : goal.tell-requires
tell-requires g c =
    record { first_value = c.in-Some.ensures.table; first_value_2 = (c.in-Some.ensures.whole, c.in-Some-load.ensures.whole) }
