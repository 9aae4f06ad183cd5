-- One record more, which has a byte at least and takes no more than are left; or the end.
use Prim.Native.Nat.{ℕ, ◌+◌, ◌*◌, ◌≤◌, ◌<◌}
use mathlib.Core.Path.{◌≡◌, sym, ◌∙◌, ap}
use mathlib.Core.Bool.{Bool, false}
use mathlib.Core.List.{List}
use native.Mathlib.Omega.{arith}
use lib.Dec.{eqb}
use lib.ListN.{length, length-drop}
use borrow.Author.Rules.{rules}
use borrow.Author.Tests.{eqb-true, eqb-false}
use Rattle.model.specs.Table.{size_of}
use Rattle.model.specs.Player.{record_bytes}
use Rattle.notes.specs.Places.{noted_at}
use Rattle.recording.specs.OneCall.{call_length}
use Rattle.endings.specs.Shares.{is_in, bytes_in}
use Rattle.endings.proofs.Tables.{calls-part}
use Rattle.endings.proofs.Sharing.{call_fits, bytes-few, passed_start, passed-end, passed-more}
use Rattle.endings.proofs.portion_of.Goals as goal

pub loop-left-init : goal.loop-left-init
loop-left-init c =
    let l = c.args.input.now in
    rw (calls-part l c.table_end.result c.table_end.ensures.length)
    (passed_start c.args.share (record_bytes l) c.none-met.result c.none-met.ensures)

-- something is left, and the first record takes a byte of it at least, and no more
some : (m : List ℕ) → false ≡ eqb (length m) 0 → 0 < length m
some m e = let z = eqb-false (length m) 0 (sym e) in omega arith

fits : (m : List ℕ) → false ≡ eqb (length m) 0 → {k : ℕ} → k ≡ call_length m → (0 < k) × (k ≤ length m)
fits m e long = let f = call_fits m (some m e) in (omega (arith, f.0, long), omega (arith, f.1, long))

pub split_at-requires : goal.split_at-requires
split_at-requires c = (fits c.loop-left.left.now c.loop-left-test.ensures c.call_length.ensures).1

pub is_in-requires : goal.is_in-requires
is_in-requires c =
    let f = fits c.loop-left.left.now c.loop-left-test.ensures c.call_length.ensures in
    omega (arith, c.split_at.ensures.front_len, f.0)

pub bytes_in-bytes-requires : goal.bytes_in-bytes-requires
bytes_in-bytes-requires c =
    let f = fits c.loop-left.left.now c.loop-left-test.ensures c.call_length.ensures in
    omega (arith, c.split_at.ensures.front_len, f.0)

pub overflow_add-bytes : goal.overflow_add-bytes
overflow_add-bytes c =
    let l = c.args.input.now in
    let f = fits c.loop-left.left.now c.loop-left-test.ensures c.call_length.ensures in
    let few = bytes-few c.split_at.result.0.now c.args.share in
    let d = length-drop (2 + 2 * size_of l) l in
    let sum : c.loop-left.bytes + c.bytes_in-bytes.result ≤ length l =
    omega (arith, c.bytes_in-bytes.ensures, c.split_at.ensures.front_len, f.1, c.loop-left.invariant.sum) in
    search rules

pub loop-left-smaller : goal.loop-left-smaller
loop-left-smaller c =
    let f = fits c.loop-left.left.now c.loop-left-test.ensures c.call_length.ensures in
    omega (arith, c.split_at.ensures.back_len, f.0)

pub loop-left-preserved : goal.loop-left-preserved
loop-left-preserved c =
    let share = c.args.share in
    let l = c.loop-left in
    let part = c.split_at.ensures in
    let is = c.is_in.ensures ∙ ap (is_in share) part.front in
    rw part.back
    (passed-more l.invariant (some l.left.now c.loop-left-test.ensures) c.call_length.ensures
    (c.noted-met.ensures ∙ ap (λ (b : Bool). noted_at l.met b l.i) is) (c.bytes_in-bytes.ensures ∙ ap (bytes_in share) part.front))

pub returns : goal.returns
returns c = passed-end c.loop-left.invariant (eqb-true (length c.loop-left.left.now) 0 (sym c.loop-left-test.ensures))
