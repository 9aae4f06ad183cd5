-- Both lists are replayed, and the images of the two sessions compared. Promise 3 says what that tells.
use mathlib.Core.Path.{◌≡◌, refl, sym, ◌∙◌}
use Rattle.model.specs.Table.{table_refusal}
use Rattle.navigator.proofs.Promise3Laws.{promise3}
use Rattle.recording.proofs.Endings.{stored_short, tells-images, tells_alike}
use Rattle.recording.proofs.same_ending.Goals as goal

pub returns-then-one-ne0 : goal.returns-then-one-ne0
returns-then-one-ne0 c =
    let a = c.args in
    let number = c.replay-one.ensures.refusal in
    let bad : table_refusal a.table.now ≡ 0 → ⊥ = λ z. c.if-one-ne0.true (number ∙ z) in
    record { refusal = number; images = λ z. absurd (bad z); alike = λ z. absurd (bad z); refused = λ n. refl; promise = promise3 a.table.now }

pub same_image-requires : goal.same_image-requires
same_image-requires c =
    let a = c.args in
    let one = c.replay-one in
    let other = c.replay-other in
    record { writable = stored_short a.table.now one.result.session one.ensures.sound; writable_2 = stored_short a.table.now other.result.session other.ensures.sound }

pub returns : goal.returns
returns c =
    let a = c.args in
    let tb = a.table.now in
    let one = c.replay-one in
    let other = c.replay-other in
    let ok : table_refusal tb ≡ 0 = sym one.ensures.refusal ∙ c.if-one-ne0.false in
    let i = rw (one.ensures.session, other.ensures.session) at c.same_image.ensures in
    record { refusal = sym ok; images = λ z. tells-images tb ok a.first.now a.second.now c.same_image.result i; alike = λ z. tells_alike tb ok a.first.now a.second.now c.same_image.result i; refused = λ bad. absurd (bad ok); promise = promise3 tb }
