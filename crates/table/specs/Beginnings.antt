-- What an input begins with, by the player's definition of an input that starts with a table.
use Rattle.std.specs.Prelude.{ℕ, ◌+◌, ◌*◌, ◌&&◌, List, Result, Ok, Err, leb, if◌then◌else◌}
use Rattle.model.specs.Table.{size_of, most_screens}
use Rattle.model.specs.Player.{starts_with_table}
use Rattle.table.specs.declared.NoTable.{NoTable}

-- "a table, then records"; or "N bad or the table cut": a table that is cut has a good N
unfoldable pub beginning_of : List ℕ → Result ℕ NoTable
beginning_of input =
    if starts_with_table input then Ok (2 + 2 * size_of input) else
    if leb 1 (size_of input) && leb (size_of input) most_screens then Err (NoTable.Cut (2 + 2 * size_of input)) else Err NoTable.Bad
