-- An input that is read in blocks: the text of the whole is the text of its blocks, one after the other, each played from
-- the session that the one before left.
use Rattle.std.specs.Prelude.{ℕ, ◌%◌, ◌≡◌, true, length}
use mathlib.Core.List.{List, [], ◌∷◌, ◌++◌, flatten}
use Rattle.model.specs.Session.{State, fresh}
use Rattle.model.specs.Player.{records_in, text_of, session_after, starts_with_table, table_in, record_bytes, player_text}

-- each block but the last holds whole records: "records of 6 bytes"
unfoldable pub WholeBlocks : List (List ℕ) → Type 0
WholeBlocks [] = Unit {0}
WholeBlocks (b ∷ []) = Unit {0}
WholeBlocks (b ∷ c ∷ bs) = (length b % 6 ≡ 0) × WholeBlocks (c ∷ bs)

-- the session after the blocks, and their text
unfoldable pub session_after_blocks : List ℕ → State ℕ → List (List ℕ) → State ℕ
session_after_blocks tb s [] = s
session_after_blocks tb s (b ∷ bs) = session_after_blocks tb (session_after tb s (records_in b)) bs

unfoldable pub text_of_blocks : List ℕ → State ℕ → List (List ℕ) → List ℕ
text_of_blocks tb s [] = []
text_of_blocks tb s (b ∷ bs) = text_of tb s (records_in b) ++ text_of_blocks tb (session_after tb s (records_in b)) bs

-- blocks of whole records join to the whole
pub record BlocksJoin : Type 0 where
  pub session : (tb : List ℕ) (s : State ℕ) (bs : List (List ℕ)) → WholeBlocks bs
      → session_after tb s (records_in (flatten bs)) ≡ session_after_blocks tb s bs
  pub text : (tb : List ℕ) (s : State ℕ) (bs : List (List ℕ)) → WholeBlocks bs
      → text_of tb s (records_in (flatten bs)) ≡ text_of_blocks tb s bs
  -- the player's text of an input that starts with a table, in whatever blocks its records are read
  pub player : (input : List ℕ) → starts_with_table input ≡ true → (bs : List (List ℕ)) → WholeBlocks bs
      → flatten bs ≡ record_bytes input → player_text input ≡ text_of_blocks (table_in input) fresh bs
