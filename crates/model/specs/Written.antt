-- Bytes written into a lent buffer.
use Rattle.std.specs.Prelude.{ℕ, ◌+◌, List, ◌++◌, length, take, drop}

-- the buffer with the bytes written from a place on, all else as it was
unfoldable pub written : List ℕ → ℕ → List ℕ → List ℕ
written buf at bytes = take at buf ++ bytes ++ drop (at + length bytes) buf
