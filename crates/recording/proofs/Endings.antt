-- Where a list of calls ends: by document 01's rules, on the program, and as it is stored.
use Prim.Native.Nat.{ℕ, zero, suc, ◌≤◌}
use mathlib.Core.Path.{◌≡◌, refl, sym, ◌∙◌, ap}
use mathlib.Core.Logic.Iff
use mathlib.Core.Logic.{◌↔◌}
use mathlib.Core.Bool.{Bool, true}
use mathlib.Core.List.{List}
use native.Mathlib.Omega.{arith}
use lib.ListN.{length}
use borrow.Author.Tests.{ne_eqb}
use Rattle.model.specs.Table.{table_refusal}
use Rattle.model.specs.Session.{fresh, screens_in}
use Rattle.model.specs.Image.{image, longest_image}
use Rattle.model.specs.Promises.{Lifelong}
use Rattle.model.proofs.Sound.{Sound}
use Rattle.model.proofs.Keeps.{fresh-sound, after-sound}
use Rattle.model.proofs.ImageLaws.{image-short}
use Rattle.model.proofs.Promise3.{sound-lifelong, images-tell}
use Rattle.session.specs.declared.Session.{Session}
use Rattle.session.specs.Stored.{fresh_session, view, hold, sound_stored}
use Rattle.session.proofs.StoredLaws.{fresh-held, view-hold, hold-sound, sound-view}
use Rattle.image.specs.Writable.{Writable}
use Rattle.image.proofs.Writables.{sound-writable}
use Rattle.calls.proofs.HistoryLaws.{alike-held, after-fresh, answers-fresh}
use Rattle.navigator.specs.Promise3.{reached}
use Rattle.navigator.proofs.Promise3Laws.{saved-held}
use Rattle.recording.specs.CallBytes.{calls_in}
use Rattle.recording.specs.Replay.{ending, replayed, EveryList, EndAlike, TellsImages}
use Rattle.recording.proofs.EveryList.{every-list}

pub fresh-stored : (tb : List ℕ) → sound_stored tb fresh_session ≡ true
fresh-stored tb = rw (← fresh-held) (hold-sound tb fresh (fresh-sound tb))

pub fresh-screens : screens_in (view fresh_session).tasks ≡ 0
unfolding screens_in
fresh-screens = rw (← fresh-held, view-hold fresh)

module _ (tb : List ℕ) (ok : table_refusal tb ≡ 0) where
  ending-sound : (bytes : List ℕ) → Sound tb (ending tb bytes)
  ending-sound bytes = after-sound tb ok fresh (fresh-sound tb) (calls_in bytes)

  pub replayed-good : (bytes : List ℕ) → replayed tb bytes ≡ hold (ending tb bytes)
  unfolding replayed
  replayed-good bytes = rw ok

  pub replayed-reached : (bytes : List ℕ) → replayed tb bytes ≡ reached tb (calls_in bytes)
  replayed-reached bytes = replayed-good bytes ∙ sym (after-fresh tb ok (calls_in bytes))

  -- ---- two lists

  module _ (first second : List ℕ) (alike : Bool)
      (tells : (alike ≡ true) ↔ (image (view (replayed tb first)) ≡ image (view (replayed tb second)))) where
    tells-endings : (alike ≡ true) ↔ (image (ending tb first) ≡ image (ending tb second))
    tells-endings =
        rw (replayed-good first, replayed-good second, view-hold (ending tb first), view-hold (ending tb second)) at tells

    -- what tells whether the images are equal tells so of what save writes, and of the answers
    pub tells-images : TellsImages tb first second alike
    tells-images buffer buffer' long long' =
        rw (
          replayed-good first,
          replayed-good second,
          saved-held tb ok (ending tb first) (ending-sound first) buffer long,
          saved-held tb ok (ending tb second) (ending-sound second) buffer' long',
        ) tells-endings

    pub tells_alike : (alike ≡ true) ↔ EndAlike tb first second
    tells_alike =
        let v = ending tb first in
        let w = ending tb second in
        rw (replayed-good first, replayed-good second)
        (Iff.trans tells-endings
        (Iff.trans (images-tell tb ok v w (ending-sound first) (ending-sound second))
        (alike-held tb ok v w (ending-sound first) (ending-sound second))))

pub replayed-refused : (tb : List ℕ) → (table_refusal tb ≡ 0 → ⊥) → (bytes : List ℕ) → replayed tb bytes ≡ fresh_session
unfolding replayed
replayed-refused tb bad bytes = rw (ne_eqb (table_refusal tb) 0 bad)

-- the session after a list is sound, under a table that is refused too, where it is fresh
pub replayed-sound : (tb bytes : List ℕ) → sound_stored tb (replayed tb bytes) ≡ true
replayed-sound tb bytes = go (table_refusal tb) refl
  where
    go : (n : ℕ) → table_refusal tb ≡ n → sound_stored tb (replayed tb bytes) ≡ true
    go zero e = rw (replayed-good tb e bytes) (hold-sound tb (ending tb bytes) (ending-sound tb e bytes))
    go (suc n) e = rw (replayed-refused tb (λ z. omega arith) bytes) (fresh-stored tb)

-- so it keeps the lifelong rules, and its image is short
module _ (tb : List ℕ) (c : Session) (e : sound_stored tb c ≡ true) where
  pub stored-lifelong : Lifelong tb (view c)
  stored-lifelong = sound-lifelong tb (view c) (sound-view tb c e)

  pub stored_short : Writable c × (length (image (view c)) ≤ longest_image)
  stored_short = (sound-writable tb c e, image-short tb (view c) (sound-view tb c e))

-- ---- every list

pub every : EveryList
every ks h =
    let (bytes, small, alike) = every-list ks h in (
      bytes,
      small,
      λ tb ok. (
        replayed-good tb ok bytes ∙ ap hold (alike tb fresh).0 ∙ sym (after-fresh tb ok ks),
        answers-fresh tb ok (calls_in bytes) ∙ (alike tb fresh).1 ∙ sym (answers-fresh tb ok ks),
      ),
    )
