-- The three shares, each by its test.
use mathlib.Core.Path.{sym, ◌∙◌, ap}
use mathlib.Core.Bool.{Bool, not, ◌&&◌, ◌||◌}
use lib.Dec.{eqb, leb}
use lib.ListN.{length, get_or}
use Rattle.recording.specs.CallBytes.{restore_kind}
use Rattle.recording.specs.Ignored.{unknown_kind}
use Rattle.endings.specs.declared.Share.{Share}
use Rattle.endings.specs.Shares.{is_in}
use Rattle.endings.proofs.Sharing.{whole-some}
use Rattle.endings.proofs.is_in.Goals as goal

pub returns-in-Images : goal.returns-in-Images
returns-in-Images c =
    let l = c.args.bytes.now in
    ap (λ (b : Bool). b && eqb (get_or l 0 0) restore_kind) (c.is_some-whole.ensures ∙ whole-some l c.whole_length.result c.whole_length.ensures)
    ∙ ap (λ (s : Share). is_in s l) (sym c.in-Images.is)

pub returns-in-LeftOut : goal.returns-in-LeftOut
returns-in-LeftOut c =
    let l = c.args.bytes.now in
    ap (λ (b : Bool). not b || unknown_kind (get_or l 0 0)) (c.is_some-whole.ensures ∙ whole-some l c.whole_length.result c.whole_length.ensures)
    ∙ ap (λ (s : Share). is_in s l) (sym c.in-LeftOut.is)

pub returns-in-CutImage : goal.returns-in-CutImage
returns-in-CutImage c =
    let l = c.args.bytes.now in
    ap (λ (b : Bool). not b && leb 6 (length l)) (c.is_some-whole.ensures ∙ whole-some l c.whole_length.result c.whole_length.ensures)
    ∙ ap (λ (s : Share). is_in s l) (sym c.in-CutImage.is)
