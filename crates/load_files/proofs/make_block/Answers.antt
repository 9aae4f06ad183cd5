-- The load of a block's bytes, at the start of the buffer.
use Rattle.std.proofs.Common.{arith, ◌≤◌, ◌*◌, length, take, drop, length-take-le, ap, ◌∙◌}
use Rattle.load_files.proofs.Made.{block_made}
use Rattle.load_files.proofs.make_block.Goals as goal

pub returns : goal.returns
returns c =
    let a = c.args in
    let end = 6 * c.block_of-end.result in
    let within : end ≤ length a.buffer.now = omega (arith, c.block_of-end.ensures, c.requires.buffer_len) in
    block_made a.table.now a.state a.left (take end a.buffer.now) (drop end a.buffer.now) c.ranges.state.fits c.requires.state_value
    (length-take-le end a.buffer.now within ∙ ap (λ n. 6 * n) c.block_of-end.ensures)
    c.load.ensures.gives
