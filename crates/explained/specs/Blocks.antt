-- An input that is read in blocks: the text of the whole is the text of its blocks, one after the other, each explained from
-- the session that the one before left.
use Rattle.std.specs.Prelude.{ℕ, ◌≡◌, Bool, true}
use mathlib.Core.List.{List, [], ◌∷◌, ◌++◌, flatten}
use Rattle.model.specs.Session.{State, fresh}
use Rattle.model.specs.Player.{records_in, session_after, starts_with_table, table_in, record_bytes}
use Rattle.model.specs.Explained.{explained_text, explain_text}
use Rattle.play.specs.Blocks.{WholeBlocks}

unfoldable pub explained_blocks : Bool → List ℕ → State ℕ → List (List ℕ) → List ℕ
explained_blocks words tb s [] = []
explained_blocks words tb s (b ∷ bs) =
    explained_text words tb s (records_in b) ++ explained_blocks words tb (session_after tb s (records_in b)) bs

-- blocks of whole records join to the whole; that their session does is a clause of `BlocksJoin` in `play/specs/Blocks.antt`
pub record ExplainedJoin : Type 0 where
  pub text : (words : Bool) (tb : List ℕ) (s : State ℕ) (bs : List (List ℕ)) → WholeBlocks bs
      → explained_text words tb s (records_in (flatten bs)) ≡ explained_blocks words tb s bs
  -- what `explain` says of an input that starts with a table, in whatever blocks its records are read
  pub whole : (words : Bool) (input : List ℕ) → starts_with_table input ≡ true → (bs : List (List ℕ)) → WholeBlocks bs
      → flatten bs ≡ record_bytes input → explain_text words input ≡ explained_blocks words (table_in input) fresh bs
