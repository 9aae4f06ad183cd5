-- All lines of the block and what stands under them have room.
use Rattle.std.proofs.Common.{ℕ, ◌*◌, ◌∙◌, refl, sym}
use lib.ListN.{length-replicate}
use Rattle.model.specs.Explained.{longest_explained}
use Rattle.reading.specs.Blocks.{most_records}
use Rattle.player_files.proofs.Room.{reasons-fit}
use Rattle.player_files.proofs.say_reasons.Goals as goal

abbrev room : ℕ
room = longest_explained * most_records

pub slice_bounds-explain-end : goal.slice_bounds-explain-end
slice_bounds-explain-end g c = sym (length-replicate {A = ℕ} room 0)

pub explain-played-requires-clause-input_in_bounds : goal.explain-played-requires-clause-input_in_bounds
explain-played-requires-clause-input_in_bounds g c =
    reasons-fit {room = room} c.requires.block_len_bound (sym (length-replicate {A = ℕ} room 0)) refl

pub slice_bounds-print_played-end : goal.slice_bounds-print_played-end
slice_bounds-print_played-end g c = rw c.explain-played.auto.out (sym (length-replicate {A = ℕ} room 0))

pub print_played-requires : goal.print_played-requires
print_played-requires g c = rw c.explain-played.auto.out c.explain-played.ensures.bound

pub returns : goal.returns
returns g c =
    record { played = c.print_played.ensures ∙ c.explain-played.ensures.session; keeps = rw c.print_played.ensures c.explain-played.ensures.keeps }
