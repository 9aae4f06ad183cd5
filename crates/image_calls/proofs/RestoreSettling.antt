-- What a restore on a stored session gives, by what its checks said: 5, then 6, then 7.
use Prim.Native.Nat.{ℕ, zero, suc}
use mathlib.Core.Path.{◌≡◌, refl, sym, ◌∙◌, ap}
use mathlib.Core.Bool.{Bool, true, false, not}
use mathlib.Core.List.{List, [], ◌∷◌}
use Rattle.std.specs.Prelude.{Option, Some, None, Ok, Err, if◌then◌else◌}
use Rattle.model.specs.Refusals.{Check, check, refusal, unless}
use Rattle.model.specs.Session.{sound}
use Rattle.model.specs.Image.{image_shaped, image_readable, image_checks, session_in}
use Rattle.model.specs.Answers.{refused, look_at}
use Rattle.model.specs.Calls.{restore, own_checks, closed_of, done}
use Rattle.session.specs.declared.Session.{Session}
use Rattle.session.specs.Stored.{view, hold, sound_stored, Ready}
use Rattle.session.proofs.StoredLaws.{held-sound}
use Rattle.image.specs.Readings.{read_stored}
use Rattle.answer.specs.Seen.{Seen}
use Rattle.starts.specs.Steps.{or_else}
use Rattle.starts.proofs.Seeking.{or-none, unless-made}
use Rattle.checks.specs.Shared.{shared_refusal}
use Rattle.calls.specs.StoredCalls.{reply, given_by, call_stored}
use Rattle.checks.proofs.SharedLaws.{shared-ready}
use Rattle.calls.proofs.Settling.{left-made}
use Rattle.calls.proofs.PlanSettling.{plan-refusal}
use Rattle.image_calls.specs.Restores.{restored_stored}

-- ---- what an image brings

module _ (tb bytes : List ℕ) where
  pub unshaped : image_shaped bytes ≡ false → refusal (image_checks tb bytes) ≡ 5
  unfolding refusal
  unshaped e = rw e

  module _ (shaped : image_shaped bytes ≡ true) where
    -- by what is read, where r tells whether it can be
    abbrev left : Bool → List Check
    left r = check 5 (not true) ∷ check 6 (not r) ∷ check 7 (not (sound tb (session_in bytes))) ∷ []

    abbrev read : Bool → Option Session
    read r = if r then Some (hold (session_in bytes)) else None

    same : refusal (image_checks tb bytes) ≡ refusal (left (image_readable bytes))
    same = ap (λ (b : Bool). refusal (check 5 (not b) ∷ check 6 (not (image_readable bytes)) ∷ check 7 (not (sound tb (session_in bytes))) ∷ [])) shaped

    pub unread : read_stored bytes ≡ None → refusal (image_checks tb bytes) ≡ 6
    unfolding refusal read_stored
    unread e = same ∙ go (image_readable bytes) e
      where
        go : (r : Bool) → read r ≡ None → refusal (left r) ≡ 6
        go true e = cc
        go false e = refl

    pub unsound : {s : Session} → read_stored bytes ≡ Some s → sound_stored tb s ≡ false → refusal (image_checks tb bytes) ≡ 7
    unfolding refusal read_stored
    unsound {s} e f = same ∙ go (image_readable bytes) e
      where
        go : (r : Bool) → read r ≡ Some s → refusal (left r) ≡ 7
        go true e = let m : hold (session_in bytes) ≡ s = cc in rw (sym (held-sound tb (session_in bytes)) ∙ ap (sound_stored tb) m ∙ f)
        go false e = cc

    pub brought : {s : Session} → read_stored bytes ≡ Some s → sound_stored tb s ≡ true
        → (refusal (image_checks tb bytes) ≡ 0) × (s ≡ hold (session_in bytes))
    unfolding refusal read_stored
    brought {s} e f = let (n, m) = go (image_readable bytes) e in (same ∙ n, m)
      where
        go : (r : Bool) → read r ≡ Some s → (refusal (left r) ≡ 0) × (s ≡ hold (session_in bytes))
        go true e = let m : hold (session_in bytes) ≡ s = cc in (rw (sym (held-sound tb (session_in bytes)) ∙ ap (sound_stored tb) m ∙ f), sym m)
        go false e = cc

  -- and a restore, where no check before its own refuses
  module _ (k : ℕ) (passed : k ≡ 0) where
    pub refused-by : (n : ℕ) → (n ≡ 0 → ⊥) → refusal (image_checks tb bytes) ≡ n → Err n ≡ restored_stored k tb bytes
    refused-by zero z e = absurd (z refl)
    refused-by (suc n) z e = rw (passed, e)

    pub made_by : {s : Session} → (refusal (image_checks tb bytes) ≡ 0) × (s ≡ hold (session_in bytes)) → Ok s ≡ restored_stored k tb bytes
    made_by e = rw (passed, e.0, e.1)

-- ---- on a stored session

module _ (tb : List ℕ) (c : Session) (bytes : List ℕ) (k : ℕ) (shared : k ≡ shared_refusal tb c) where
  own-number : Ready tb c → refusal (image_checks tb bytes) ≡ refusal (own_checks tb (view c) (restore bytes))
  unfolding own_checks
  own-number h = refl

  pub restore-refused : (n : ℕ) → (n ≡ 0 → ⊥) → Err n ≡ restored_stored k tb bytes → reply c (refused n) ≡ call_stored tb c (restore bytes)
  unfolding call_stored
  restore-refused zero z e = absurd (z refl)
  restore-refused (suc n) z e = ap (given_by tb c (restore bytes)) (refused-by (or_else k (refusal (image_checks tb bytes))) e ∙ plan-refusal tb c (restore bytes) k _ shared own-number)
    where
      refused-by : (m : ℕ) → Err (suc n) ≡ unless m (hold (session_in bytes)) → suc n ≡ m
      refused-by zero e = cc
      refused-by (suc m) e = cc

  -- the session read is the one that the restore makes
  pub restore-made : {s : Session} → Ok s ≡ restored_stored k tb bytes → Seen s × (reply s (look_at (view s)) ≡ call_stored tb c (restore bytes))
  unfolding closed_of done
  restore-made {s} e =
      let (none, made) = unless-made (or_else k (refusal (image_checks tb bytes))) e in
      let (passed, own) = or-none k _ none in
      let h = shared-ready tb c (sym shared ∙ passed) in
      let left = left-made tb c (restore bytes) h (sym (own-number h) ∙ own) refl {n = 0} {d = s} refl made in
      (left.seen refl, left.settles)
