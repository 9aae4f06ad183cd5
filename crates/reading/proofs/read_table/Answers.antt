-- Two bytes at most are read first; a table that is cut there has at most as many bytes as the longest table by its N.
use Rattle.std.proofs.Common.{rules, arith, ℕ, ◌≤◌, ◌≡◌, ◌<◌, List, ◌++◌, length, take, length-take-le, length-append, ap, ◌∙◌}
use Rattle.model.specs.Table.{longest_table}
use Rattle.std.specs.Prelude.{Result, Err}
use Rattle.table.specs.Beginnings.{beginning_of}
use Rattle.table.specs.declared.NoTable.{NoTable}
use Rattle.table.proofs.BeginningLaws.{told}
use Rattle.reading.proofs.read_table.Goals as goal

cut : (n long : ℕ) (read behind : List ℕ) {b : Result ℕ NoTable} → n ≤ length read → b ≡ beginning_of (take n (read ++ behind)) → b ≡ Err (NoTable.Cut long)
    → (n < long) × (long ≤ longest_table)
cut n long read behind h e f =
    let k = told (take n (read ++ behind)) (Err (NoTable.Cut long)) e f in
    let all = length-append read behind in
    let l = length-take-le n (read ++ behind) (omega arith) in
    (omega arith, omega arith)

pub slice_bounds-read_block-count : goal.slice_bounds-read_block-count
slice_bounds-read_block-count g c =
    let k = cut _ _ _ _ c.read_block-first.ensures.0 c.beginning_of.ensures (c.in-Err-Cut.is ∙ ap Err c.in-Err-Cut.field-0-is) in
    omega arith

pub slice_bounds-read_block-start : goal.slice_bounds-read_block-start
slice_bounds-read_block-start g c =
    let k = cut _ _ _ _ c.read_block-first.ensures.0 c.beginning_of.ensures (c.in-Err-Cut.is ∙ ap Err c.in-Err-Cut.field-0-is) in
    search rules

pub slice_bounds-read_block-end-3 : goal.slice_bounds-read_block-end-3
slice_bounds-read_block-end-3 g c =
    let k = cut _ _ _ _ c.read_block-first.ensures.0 c.beginning_of.ensures (c.in-Err-Cut.is ∙ ap Err c.in-Err-Cut.field-0-is) in
    search rules

pub returns : goal.returns
returns g c =
    let k = cut _ _ _ _ c.read_block-first.ensures.0 c.beginning_of.ensures (c.in-Err-Cut.is ∙ ap Err c.in-Err-Cut.field-0-is) in
    search rules
