-- Each buffer begins with an image, and what is compared is that much of it.
use mathlib.Core.Path.{◌≡◌, sym, ◌∙◌, ap}
use mathlib.Core.Bool.{true}
use mathlib.Core.Logic.{◌↔◌}
use lib.ListN.{take}
use borrow.Author.Rules.{rules}
use lib.Seq.{take_at}
use Rattle.model.specs.Image.{image}
use Rattle.session.specs.Stored.{view}
use Rattle.recording.proofs.same_image.Goals as goal

pub returns : goal.returns
returns c =
    let a = c.args in
    let one = c.write-n in
    let other = c.write-m in
    let e : take one.result one.new.out ≡ image (view a.s) =
    ap (take one.result) one.ensures.bytes ∙ take_at _ _ one.result (sym one.ensures.length) in
    let f : take other.result other.new.out ≡ image (view a.t) =
    ap (take other.result) other.ensures.bytes ∙ take_at _ _ other.result (sym other.ensures.length) in
    let h : (c.eq.result ≡ true) ↔ (take one.result one.new.out ≡ take other.result other.new.out) = search rules in
    (λ t. sym e ∙ h.0 t ∙ f, λ q. h.1 (e ∙ q ∙ sym f))
