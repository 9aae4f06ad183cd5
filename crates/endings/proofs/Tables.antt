-- A recording's table and what follows it, as the parts that are lent; and the recording replayed under that table.
use Prim.Native.Nat.{ℕ, ◌+◌, ◌*◌, ◌-◌}
use mathlib.Core.Path.{◌≡◌, ◌∙◌}
use mathlib.Core.List.{List}
use lib.ListN.{length, take, drop}
use borrow.Rule.Slice.PartMut.{mid_of}
use Rattle.model.specs.Table.{size_of, table_refusal}
use Rattle.model.specs.Player.{table_in, record_bytes}
use Rattle.session.specs.Stored.{hold}
use Rattle.line.proofs.Copies.{part-rest}
use Rattle.recording.specs.Replay.{ending, replayed}
use Rattle.recording.specs.Ignored.{ignored_from}
use Rattle.endings.specs.Endings.{ignored_in}
use Rattle.endings.proofs.Parts.{take-taken, drop-taken}

module _ (l : List ℕ) (n : ℕ) (e : n ≡ length (table_in l)) where
  pub table-part : take n l ≡ table_in l
  table-part = rw e (take-taken (2 + 2 * size_of l) l)

  pub calls-part : mid_of n (length l - n) l ≡ record_bytes l
  calls-part = part-rest n l ∙ rw e (drop-taken (2 + 2 * size_of l) l)

  pub ignored-part : ignored_from n (drop n l) ≡ ignored_in l
  ignored-part = rw (e, drop-taken (2 + 2 * size_of l) l)

pub replayed-good : (tb bytes : List ℕ) → table_refusal tb ≡ 0 → replayed tb bytes ≡ hold (ending tb bytes)
unfolding replayed
replayed-good tb bytes ok = rw ok
