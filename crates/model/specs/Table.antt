-- Document 01, "Screen table", and refusals 1 and 2.
use Rattle.std.specs.Prelude.{ℕ, ◌+◌, ◌*◌, Bool, not, ◌&&◌, ◌||◌, List, [], ◌∷◌, leb, ltb, eqb, length, get_or}
use Rattle.model.specs.Lists.{all_below}
use Rattle.model.specs.Refusals.{Check, check, refusal}

-- "N (1 to 64)"
abbrev pub most_screens : ℕ
most_screens = 64

-- in bytes
abbrev pub longest_table : ℕ
longest_table = 2 + 2 * most_screens

-- "A table is bytes: N (1 to 64), the main screen's number, then for screens 0 to N − 1 a mode and an affinity"
abbrev pub size_of : List ℕ → ℕ
size_of tb = get_or tb 0 0

abbrev pub main_screen : List ℕ → ℕ
main_screen tb = get_or tb 1 0

unfoldable pub mode_of : List ℕ → ℕ → ℕ
mode_of tb x = get_or tb (2 + 2 * x) 0

unfoldable pub affinity_of : List ℕ → ℕ → ℕ
affinity_of tb x = get_or tb (3 + 2 * x) 0

-- "0 standard, 1 single-top, 2 single-task, 3 single-instance"
abbrev pub single_top : ℕ
single_top = 1

abbrev pub single_task : ℕ
single_task = 2

abbrev pub single_instance : ℕ
single_instance = 3

unfoldable pub is_single_top : List ℕ → ℕ → Bool
is_single_top tb x = eqb (mode_of tb x) single_top

unfoldable pub is_single_task : List ℕ → ℕ → Bool
is_single_task tb x = eqb (mode_of tb x) single_task

unfoldable pub is_single_instance : List ℕ → ℕ → Bool
is_single_instance tb x = eqb (mode_of tb x) single_instance

-- a "single-task or single-instance screen": it is the root of one task at most
unfoldable pub roots_once : List ℕ → ℕ → Bool
roots_once tb x = is_single_task tb x || is_single_instance tb x

-- not "1: table length wrong, or N not 1 to 64" ("Its length is 2 + 2 × N")
unfoldable pub table_shaped : List ℕ → Bool
table_shaped tb = eqb (length tb) (2 + 2 * size_of tb) && (leb 1 (size_of tb) && leb (size_of tb) most_screens)

-- not "2: main screen not below N, or a mode above 3"
unfoldable pub table_filled : List ℕ → Bool
table_filled tb = ltb (main_screen tb) (size_of tb) && all_below (size_of tb) (λ x. leb (mode_of tb x) single_instance)

abbrev pub table_checks : List ℕ → List Check
table_checks tb = check 1 (not (table_shaped tb)) ∷ check 2 (not (table_filled tb)) ∷ []

-- 1 or 2; 0 for a good table, one that is not refused
unfoldable pub table_refusal : List ℕ → ℕ
table_refusal tb = refusal (table_checks tb)
