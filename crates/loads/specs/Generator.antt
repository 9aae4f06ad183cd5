-- Document 02, request 8: the generator, its records and its states.
use Rattle.std.specs.Prelude.{ℕ, zero, suc, ◌+◌, ◌/◌, ◌%◌, List, [], ◌++◌, eqb, if◌then◌else◌}
use Rattle.std.specs.Int.Bits.{bit_xor}
use Rattle.model.specs.Flags.{seven_of}
use Rattle.records.specs.Records.{bytes_of_record}

-- "One step halves the state, dropping the lowest bit, and xors hex 80200003 if that bit was 1."
unfoldable pub step : ℕ → ℕ
step s = if eqb (s % 2) 1 then bit_xor (s / 2) 0x80200003 else s / 2

-- "A record takes three steps": the state after them is the next record's
unfoldable pub next : ℕ → ℕ
next s = step (step (step s))

-- the six bytes that the state s makes under a table of n screens: "the first state modulo 5, plus 1, is the kind; the second
-- modulo N the screen; the third with all but the seven flag bits cleared is the flag word"
unfoldable pub record_from : ℕ → ℕ → List ℕ
record_from n s = bytes_of_record (step s % 5 + 1) (step (step s) % n) (seven_of (next s))

-- the bytes of so many records from the state s on
unfoldable pub records_from : ℕ → ℕ → ℕ → List ℕ
records_from n s zero = []
records_from n s (suc a) = record_from n s ++ records_from n (next s) a

-- the state after so many records: "the last state (the seed if none)"
unfoldable pub state_after : ℕ → ℕ → ℕ
state_after s zero = s
state_after s (suc a) = state_after (next s) a
