-- The table that was read is as long as the part of the buffer that is lent.
use Rattle.std.proofs.Common.{arith, ℕ, ◌≤◌, ◌≡◌, List, length, take, length-take, length-take-le, sym}
use Rattle.std.specs.Prelude.{Result, Ok}
use Rattle.table.specs.Beginnings.{beginning_of}
use Rattle.table.specs.declared.NoTable.{NoTable}
use Rattle.table.proofs.BeginningLaws.{told}
use Rattle.depth_files.proofs.report_on.Goals as goal

within : (n long : ℕ) (buffer : List ℕ) {b : Result ℕ NoTable} → b ≡ beginning_of (take n buffer) → b ≡ Ok long → long ≤ length buffer
within n long buffer e f =
    let k = told (take n buffer) (Ok long) e f in
    omega (arith, length-take n buffer)

pub slice_bounds-buffer-end-2 : goal.slice_bounds-buffer-end-2
slice_bounds-buffer-end-2 g c = within _ _ _ c.beginning_of.ensures c.in-Ok.is

pub slice_bounds-run-end : goal.slice_bounds-run-end
slice_bounds-run-end g c = sym (length-take-le _ _ (within _ _ _ c.beginning_of.ensures c.in-Ok.is))
