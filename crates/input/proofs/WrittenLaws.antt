-- What is written of `explain`'s and of `depth`'s text, by what the input begins with and by the room; and the answers of an input.
use Prim.Native.Nat.{ℕ, ◌*◌, ◌≤◌, ◌<◌}
use mathlib.Core.Path.{◌≡◌}
use mathlib.Core.Bool.{Bool, true, false}
use mathlib.Core.List.{List, []}
use lib.ListN.{length}
use borrow.Author.Tests.{le-leb, lt-leb}
use Rattle.model.specs.Session.{fresh}
use Rattle.model.specs.Player.{records_in, starts_with_table, table_in, record_bytes}
use Rattle.model.specs.Explained.{explained_text, explain_text, longest_explained}
use Rattle.tally.specs.declared.Tally.{Tally}
use Rattle.tally.specs.Tallies.{tally_of, added_all, reported}
use Rattle.tally.proofs.TallyLaws.{tallies-join, reports-lists}
use Rattle.depths.specs.Depths.{answers_to}
use Rattle.depths.specs.Reports.{report_text, longest_report, answers_in, depth_text}
use Rattle.input.specs.Texts.{stop_written, explain_room, explain_written, depth_written}

module _ (words : Bool) (input out : List ℕ) where
  pub explain-stop : starts_with_table input ≡ false → explain_written words input out ≡ stop_written out
  unfolding explain_written explain_room explain_text
  explain-stop e = rw e

  pub explain-short : starts_with_table input ≡ true → length out < longest_explained * length (records_in (record_bytes input))
      → explain_written words input out ≡ []
  unfolding explain_written explain_room
  explain-short e h = rw (e, lt-leb (longest_explained * length (records_in (record_bytes input))) (length out) h)

  pub explain-table : starts_with_table input ≡ true → longest_explained * length (records_in (record_bytes input)) ≤ length out
      → explain_written words input out ≡ explained_text words (table_in input) fresh (records_in (record_bytes input))
  unfolding explain_written explain_room explain_text
  explain-table e h = rw (e, le-leb (longest_explained * length (records_in (record_bytes input))) (length out) h)

module _ (input : List ℕ) where
  pub answers-none : starts_with_table input ≡ false → answers_in input ≡ []
  unfolding answers_in
  answers-none e = rw e

  pub answers-tally : starts_with_table input ≡ true
      → added_all (tally_of []) (answers_to (table_in input) fresh (records_in (record_bytes input))) ≡ tally_of (answers_in input)
  unfolding answers_in
  answers-tally e = rw e (tallies-join [] (answers_to (table_in input) fresh (records_in (record_bytes input))))

  pub depth-none : (out : List ℕ) → length out < longest_report → depth_written input out ≡ []
  unfolding depth_written
  depth-none out h = rw (lt-leb longest_report (length out) h)

  pub depth-line : (out : List ℕ) → longest_report ≤ length out → {t : Tally} → t ≡ tally_of (answers_in input)
      → depth_written input out ≡ report_text (reported t)
  unfolding depth_written depth_text
  depth-line out h e = rw (le-leb longest_report (length out) h, e, reports-lists (answers_in input))
