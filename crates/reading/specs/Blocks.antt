-- The blocks in which programs read recordings.
use Rattle.std.specs.Prelude.{ℕ, ◌≤◌, ◌≡◌, List, length, take}

-- a block has so many records at most
abbrev pub most_records : ℕ
most_records = 10000

-- the first n bytes of a buffer are there, and are n
abbrev pub IsPrefixLen : ℕ → List ℕ → Type 0
IsPrefixLen n xs = (n ≤ length xs) × (n ≡ length (take n xs))
