-- A recording that is read in blocks: the tally of the whole is that of its blocks, one after the other, each from the session
-- and the tally that the one before left.
use Rattle.std.specs.Prelude.{ℕ, ◌≡◌, true, false}
use mathlib.Core.List.{List, [], ◌∷◌, flatten}
use Rattle.model.specs.Texts.{ascii}
use Rattle.model.specs.Session.{State, fresh}
use Rattle.model.specs.Player.{records_in, session_after, starts_with_table, table_in, record_bytes}
use Rattle.play.specs.Blocks.{WholeBlocks}
use Rattle.tally.specs.declared.Tally.{Tally}
use Rattle.tally.specs.Tallies.{tally_of, added_all, reported}
use Rattle.depths.specs.Depths.{answers_to}
use Rattle.depths.specs.Reports.{report_text, depth_text}

unfoldable pub tally_of_blocks : List ℕ → State ℕ → Tally → List (List ℕ) → Tally
tally_of_blocks tb s t [] = t
tally_of_blocks tb s t (b ∷ bs) = tally_of_blocks tb (session_after tb s (records_in b)) (added_all t (answers_to tb s (records_in b))) bs

-- blocks of whole records join to the whole; that their session does is a clause of `BlocksJoin` in `play/specs/Blocks.antt`
pub record TallyJoins : Type 0 where
  pub tally : (tb : List ℕ) (s : State ℕ) (t : Tally) (bs : List (List ℕ)) → WholeBlocks bs
      → added_all t (answers_to tb s (records_in (flatten bs))) ≡ tally_of_blocks tb s t bs
  -- what `depth` prints of a recording that starts with a table, in whatever blocks its records are read
  pub whole : (input : List ℕ) → starts_with_table input ≡ true → (bs : List (List ℕ)) → WholeBlocks bs
      → flatten bs ≡ record_bytes input → depth_text input ≡ report_text (reported (tally_of_blocks (table_in input) fresh (tally_of []) bs))
  -- "a table on which the player stops prints four zeros"
  pub stops : (input : List ℕ) → starts_with_table input ≡ false → depth_text input ≡ ascii "0 0 0 0\n"
