-- `image_calls::restored` meets its contract: refused before, or by 5, 6 or 7, or the session read; a refused one leaves what stood.
use mathlib.Core.Path.{◌≡◌, refl, sym, ◌∙◌, ap}
use mathlib.Core.Bool.{true, false}
use native.Mathlib.Omega.{arith}
use Rattle.std.specs.Prelude.{Option, Some, None}
use Rattle.model.specs.Refusals.{refusal_in}
use Rattle.model.specs.Image.{image_shaped}
use Rattle.session.specs.declared.Session.{Session}
use Rattle.session.specs.Stored.{sound_stored}
use Rattle.image.specs.Readings.{read_stored}
use Rattle.checks.proofs.SharedLaws.{shared-ready}
use Rattle.image_calls.proofs.RestoreSettling.{unshaped, unread, unsound, brought, refused-by, made_by}
use Rattle.image_calls.proofs.restored.Goals as goal

none_of : (o : Option Session) → ((s : Session) → o ≡ Some s → ⊥) → o ≡ None
none_of (Some s) f = absurd (f s refl)
none_of None f = refl

pub sound-requires : goal.sound-requires
sound-requires c =
    let o = c.args.on.now in (shared-ready o.table.now o.session.now (sym o.says ∙ ap refusal_in c.in_ok-on.was)).good

pub returns-then-not-shaped-clause-brings : goal.returns-then-not-shaped-clause-brings
returns-then-not-shaped-clause-brings c =
    let a = c.args in
    let e : image_shaped a.image.now ≡ false = sym c.shaped.ensures ∙ c.if-not-shaped.true in
    refused-by a.on.now.table.now a.image.now (refusal_in a.on.now.refused) (ap refusal_in c.in_ok-on.was) 5 (λ z. omega (arith, z)) (unshaped a.on.now.table.now a.image.now e)

pub returns-in_default-clause-brings : goal.returns-in_default-clause-brings
returns-in_default-clause-brings c =
    let a = c.args in
    let e : image_shaped a.image.now ≡ true = sym c.shaped.ensures ∙ c.if-not-shaped.false in
    let o : read_stored a.image.now ≡ None = sym c.read.ensures ∙ none_of c.read.result (λ s q. c.in_default.not-Some s q) in
    refused-by a.on.now.table.now a.image.now (refusal_in a.on.now.refused) (ap refusal_in c.in_ok-on.was) 6 (λ z. omega (arith, z)) (unread a.on.now.table.now a.image.now e o)

pub returns-then-not-sound-clause-brings : goal.returns-then-not-sound-clause-brings
returns-then-not-sound-clause-brings c =
    let a = c.args in
    let e : image_shaped a.image.now ≡ true = sym c.shaped.ensures ∙ c.if-not-shaped.false in
    let o : read_stored a.image.now ≡ Some c.in-Some.session = sym c.read.ensures ∙ c.in-Some.is in
    let f : sound_stored a.on.now.table.now c.in-Some.session ≡ false = sym c.sound.ensures ∙ c.if-not-sound.true in
    refused-by a.on.now.table.now a.image.now (refusal_in a.on.now.refused) (ap refusal_in c.in_ok-on.was) 7 (λ z. omega (arith, z)) (unsound a.on.now.table.now a.image.now e o f)

pub returns-clause-brings : goal.returns-clause-brings
returns-clause-brings c =
    let a = c.args in
    let e : image_shaped a.image.now ≡ true = sym c.shaped.ensures ∙ c.if-not-shaped.false in
    let o : read_stored a.image.now ≡ Some c.in-Some.session = sym c.read.ensures ∙ c.in-Some.is in
    let f : sound_stored a.on.now.table.now c.in-Some.session ≡ true = sym c.sound.ensures ∙ c.if-not-sound.false in
    made_by a.on.now.table.now a.image.now (refusal_in a.on.now.refused) (ap refusal_in c.in_ok-on.was) (brought a.on.now.table.now a.image.now e o f)
