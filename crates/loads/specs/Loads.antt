-- Document 02, request 8: what a load gives, for all tables, seeds and buffers.
use Rattle.std.specs.Prelude.{ℕ, zero, suc, ◌*◌, ◌/◌, List, [], ◌∷◌, ◌++◌, eqb, length, drop}
use Rattle.model.specs.Refusals.{Check, check, refusal}
use Rattle.model.specs.Table.{size_of, table_checks}
use Rattle.loads.specs.declared.LoadReply.{LoadReply}
use Rattle.loads.specs.Generator.{records_from, state_after}

-- "seed 0 gives 32"
abbrev pub seed_checks : ℕ → List Check
seed_checks seed = check 32 (eqb seed 0) ∷ []

-- "after 1 and 2"
abbrev pub load_refusal : List ℕ → ℕ → ℕ
load_refusal tb seed = refusal (table_checks tb ++ seed_checks seed)

-- the three numbers of a load, and the buffer as it leaves it
pub record Loaded : Type 0 where
  pub refusal : ℕ
  pub count : ℕ
  pub state : ℕ
  pub buffer : List ℕ

abbrev pub loaded : LoadReply → List ℕ → Loaded
loaded r buffer = record { refusal = r.refusal; count = r.count; state = r.state; buffer = buffer }

-- "with count and state 0"
abbrev pub refused_load : ℕ → LoadReply
refused_load k = record { refusal = k; state = 0; count = 0 }

-- "as many whole records as fit"
abbrev pub fitting : List ℕ → ℕ
fitting buffer = length buffer / 6

-- "It fills a lent buffer with as many whole records as fit, bytes beyond them staying"
abbrev pub filled : ℕ → ℕ → List ℕ → List ℕ
filled n seed buffer = records_from n seed (fitting buffer) ++ drop (6 * fitting buffer) buffer

-- "and returns their count and the last state"; where it is refused, "with count and state 0 and the buffer unchanged"
abbrev pub settle_load : ℕ → ℕ → ℕ → List ℕ → Loaded
settle_load zero n seed buffer =
    record { refusal = 0; count = fitting buffer; state = state_after seed (fitting buffer); buffer = filled n seed buffer }
settle_load (suc k) n seed buffer = loaded (refused_load (suc k)) buffer

unfoldable pub load_of : List ℕ → ℕ → List ℕ → Loaded
load_of tb seed buffer = settle_load (load_refusal tb seed) (size_of tb) seed buffer
