-- The blocks in which `load` makes records: each from the state after the one before. That they join to the records of the whole
-- is `GoesOn` of each (`loads/specs/Promises`).
use Rattle.std.specs.Prelude.{ℕ, ◌*◌, min, ◌≡◌, List, take}
use Rattle.model.specs.Table.{size_of}
use Rattle.reading.specs.Blocks.{most_records}
use Rattle.loads.specs.declared.LoadReply.{LoadReply}
use Rattle.loads.specs.Generator.{records_from, state_after}
use Rattle.loads.specs.Loads.{load_refusal}

-- how many of the records that are left the next block has
abbrev pub block_of : ℕ → ℕ
block_of left = min left most_records

-- that block at the start of a buffer, from the state s; and the state after it can be gone on from
pub record MakesBlock (tb : List ℕ) (s left : ℕ) (buffer : List ℕ) (r : LoadReply) : Type 0 where
  pub count : r.count ≡ block_of left
  pub state : r.state ≡ state_after s (block_of left)
  pub records : take (6 * block_of left) buffer ≡ records_from (size_of tb) s (block_of left)
  pub goes_on : load_refusal tb r.state ≡ 0
