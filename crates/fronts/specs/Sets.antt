-- Document 02, request 12: "a 64-bit set, bit k for screen k, and how many there are by a count of its ones".
use Rattle.std.specs.Prelude.{ℕ, zero, suc, ◌+◌, ◌/◌, ◌%◌, ◌≡◌}

-- the bit k of a set
abbrev pub digit : ℕ → ℕ → ℕ
digit zero set = set % 2
digit (suc k) set = digit k (set / 2)

-- "bit k for screen k"
abbrev pub IsIn : ℕ → ℕ → Type 0
IsIn k set = digit k set ≡ 1

-- each screen of the one set is in the other
abbrev pub Within : ℕ → ℕ → Type 0
Within few many = (k : ℕ) → IsIn k few → IsIn k many

-- how many of the first n bits are 1
unfoldable pub ones_among : ℕ → ℕ → ℕ
ones_among zero set = 0
ones_among (suc n) set = set % 2 + ones_among n (set / 2)

-- "how many there are by a count of its ones"
abbrev pub size_of : ℕ → ℕ
size_of set = ones_among 64 set
