-- The numbers that the arguments of `load` are, and those that it prints.
use Rattle.std.specs.Prelude.{ℕ, ◌+◌, ◌-◌, ◌*◌, List, [], ◌∷◌, ltb, if◌then◌else◌, Option, Some, None}

-- no number of records is above it
abbrev pub most_asked : ℕ
most_asked = 1000000000000

-- the number v with these digits behind it
unfoldable pub number_from : ℕ → List ℕ → Option ℕ
number_from v [] = Some v
number_from v (x ∷ xs) =
    if ltb x 48 then None else
    if ltb 57 x then None else
    if ltb most_asked (10 * v + (x - 48)) then None else number_from (10 * v + (x - 48)) xs

-- what a text stands for in base ten; one without a digit for nothing
unfoldable pub number_in : List ℕ → Option ℕ
number_in [] = None
number_in (x ∷ xs) = number_from 0 (x ∷ xs)

-- the character that stands in hex for a number below 16
abbrev pub hex_digit : ℕ → ℕ
hex_digit x = if ltb x 10 then 48 + x else 87 + x
