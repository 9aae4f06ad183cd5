-- All lines of the block have room.
use Rattle.std.proofs.Common.{ℕ, ◌*◌, List, refl, sym, ap, ◌∙◌}
use lib.ListN.{replicate, length-replicate}
use Rattle.model.specs.Player.{Record, session_after, longest_line}
use Rattle.session.specs.Stored.{view, hold}
use Rattle.play.proofs.BlockLaws.{fitting-all}
use Rattle.reading.specs.Blocks.{most_records}
use Rattle.player_files.proofs.Room.{lines_fit}
use Rattle.player_files.proofs.say_lines.Goals as goal

pub returns : goal.returns
returns g c =
    let a = c.args in
    let room = sym (length-replicate {A = ℕ} (longest_line * most_records) 0) in
    let fit = fitting-all a.block.now (replicate (longest_line * most_records) 0) (lines_fit c.requires.block_len_bound room refl) in
    record {
      played = c.print_played.ensures ∙ c.play-played.ensures.session ∙ ap (λ (rs : List Record). hold (session_after a.table.now (view a.s) rs)) fit;
      keeps = rw c.print_played.ensures c.play-played.ensures.keeps;
    }
