-- Computed cases over table T (document 01), each with two bytes beyond its records: seeds 1 and ffffffff; a buffer in which no
-- record fits; the seed 0; and 2 before 32.
use Prim.Native.Nat.{ℕ}
use mathlib.Core.Path.{◌≡◌, refl}
use mathlib.Core.List.{List, [], ◌∷◌, ◌++◌}
use Rattle.model.specs.Refusals.{refusal}
use Rattle.model.specs.Table.{table_shaped, table_filled, mode_of}
use Rattle.loads.specs.Generator.{step, next, record_from, records_from, state_after}
use Rattle.loads.specs.Loads.{Loaded, load_of}

-- T, and T with another main screen
abbrev table : ℕ → List ℕ
table main = 6 ∷ main ∷ 0 ∷ 1 ∷ 0 ∷ 1 ∷ 1 ∷ 1 ∷ 2 ∷ 2 ∷ 3 ∷ 1 ∷ 0 ∷ 2 ∷ []

abbrev six : List ℕ
six = 9 ∷ 9 ∷ 9 ∷ 9 ∷ 9 ∷ 9 ∷ []

abbrev beyond : List ℕ
beyond = 7 ∷ 8 ∷ []

abbrev gave : ℕ → ℕ → ℕ → List ℕ → Loaded
gave k count state buffer = record { refusal = k; count = count; state = state; buffer = buffer }

seed-1 : load_of (table 0) 1 (six ++ six ++ beyond)
    ≡ gave 0 2 0x6c1b0001 (0x04 ∷ 0x02 ∷ 0x60 ∷ 0x00 ∷ 0x00 ∷ 0x00 ∷ 0x04 ∷ 0x02 ∷ 0x6c ∷ 0x02 ∷ 0x00 ∷ 0x00 ∷ beyond)
unfolding load_of refusal table_shaped table_filled mode_of step next record_from records_from state_after
seed-1 = refl

seed-ones : load_of (table 0) 0xffffffff (six ++ beyond) ≡ gave 0 1 0x3ff7ffff (0x01 ∷ 0x02 ∷ 0x3c ∷ 0x02 ∷ 0x80 ∷ 0x00 ∷ beyond)
unfolding load_of refusal table_shaped table_filled mode_of step next record_from records_from state_after
seed-ones = refl

none-fits : load_of (table 0) 5 beyond ≡ gave 0 0 5 beyond
unfolding load_of refusal table_shaped table_filled mode_of records_from state_after
none-fits = refl

seed-0 : load_of (table 0) 0 (six ++ beyond) ≡ gave 32 0 0 (six ++ beyond)
unfolding load_of refusal table_shaped table_filled mode_of
seed-0 = refl

two-before-32 : load_of (table 6) 0 (six ++ beyond) ≡ gave 2 0 0 (six ++ beyond)
unfolding load_of refusal table_shaped table_filled mode_of
two-before-32 = refl
