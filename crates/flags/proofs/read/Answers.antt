-- Each flag is the word under the mask of one bit.
use Rattle.model.specs.Flags.{flags_of}
use Rattle.flags.proofs.Masks.{flag}
use Rattle.flags.proofs.read.Goals as goal

pub returns : goal.returns
unfolding flags_of
returns c =
    let w = c.args.word in
    λ i.
    record { ntk = flag w 28 i; stp = flag w 29 i; mtk = flag w 27 i; ctp = flag w 26 i; rtf = flag w 17 i; ctk = flag w 15 i; noh = flag w 30 i }
