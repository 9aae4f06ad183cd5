-- How many stand above, by the place from the top: the definitions count places from 1, with 0 for none.
use Rattle.std.specs.Prelude.{ℕ, zero, suc, Option, None, Some}

abbrev pub above_of : ℕ → Option ℕ
above_of zero = None
above_of (suc k) = Some k
