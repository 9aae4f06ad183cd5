-- Demand 2 of a restore on a stored session: what is accepted is the image of a sound session, which comes back.
use Prim.Native.Nat.{ℕ, zero, suc}
use mathlib.Core.Path.{◌≡◌, refl, sym, ◌∙◌, ap}
use mathlib.Core.List.{List, [], ◌∷◌}
use native.Mathlib.Omega.{arith}
use lib.ListN.{get_or}
use Rattle.model.specs.Lists.{All}
use Rattle.model.specs.Refusals.{refusal}
use Rattle.model.specs.Session.{State}
use Rattle.model.specs.Image.{image, image_checks, session_in}
use Rattle.model.specs.Answers.{look_at, with_closed, settle}
use Rattle.model.specs.Calls.{restore, own_checks, closed_of, done}
use Rattle.model.specs.Histories.{IsByte}
use Rattle.model.proofs.ImageLaws.{images-exact, accepts-exactly}
use Rattle.session.specs.declared.Session.{Session}
use Rattle.session.specs.Stored.{view, hold, Ready}
use Rattle.session.proofs.StoredLaws.{view-hold}
use Rattle.calls.specs.declared.Reply.{Reply}
use Rattle.checks.specs.Shared.{shared_refusal}
use Rattle.calls.specs.StoredCalls.{reply, call_stored, KeepsSound}
use Rattle.image_calls.specs.Restores.{Accepted, AcceptsImages, BringsBack, SavesAgain}
use Rattle.checks.proofs.SharedLaws.{shared-ready}
use Rattle.calls.proofs.Settling.{call-refused, call_settled, call-keeps, own-accepted}

-- an answer names the refusal
settled-refusal : (n : ℕ) (c d : Session) (v : State ℕ) (x : ℕ) → (settle reply n c d (with_closed x (look_at v))).answer.refusal ≡ n
unfolding look_at
settled-refusal zero c d v x = refl
settled-refusal (suc n) c d v x = refl

module _ (tb : List ℕ) (c : Session) (bytes : List ℕ) where
  abbrev given : Reply
  given = call_stored tb c (restore bytes)

  -- what is accepted passed the shared checks
  ready : Accepted given → Ready tb c
  ready e = shared-ready tb c (go (shared_refusal tb c) refl)
    where
      go : (n : ℕ) → shared_refusal tb c ≡ n → n ≡ 0
      go zero f = refl
      go (suc n) f = sym (ap (λ (r : Reply). r.answer.refusal) (call-refused tb c (restore bytes) (suc n) f (λ z. omega arith))) ∙ e

  module _ (h : Ready tb c) where
    -- then only 5, 6 and 7 are left
    own-refusal : given.answer.refusal ≡ refusal (image_checks tb bytes)
    unfolding own_checks
    own-refusal =
        ap (λ (r : Reply). r.answer.refusal) (call_settled tb c (restore bytes) h)
        ∙ settled-refusal (refusal (image_checks tb bytes)) c _ (done tb (view c) (restore bytes)) (closed_of tb (view c) (restore bytes))

    brought : refusal (image_checks tb bytes) ≡ 0 → given.session ≡ hold (session_in bytes)
    unfolding own_checks done
    brought e = ap (λ (r : Reply). r.session) (own-accepted tb c (restore bytes) h e)

  brings-back : BringsBack tb c bytes given
  brings-back h v s e =
      let n : refusal (image_checks tb bytes) ≡ 0 = rw (← e) ((images-exact tb).accepts v s) in
      brought h n ∙ ap hold (rw (← e) ((images-exact tb).brings_back v s))

  module _ (small : All IsByte bytes) where
    accepts-images : AcceptsImages tb c bytes given
    accepts-images h = rw (own-refusal h) (accepts-exactly tb bytes small)

    saves-again : SavesAgain bytes given
    saves-again e =
        let h = ready e in
        let n = sym (own-refusal h) ∙ e in
        ap (λ (s : Session). image (view s)) (brought h n)
        ∙ ap image (view-hold (session_in bytes))
        ∙ (images-exact tb).images_only bytes small n

    -- what a restore gives, with every clause of its contract
    pub restore-gives : (r : Reply) → r ≡ given
        → (r ≡ given) × (KeepsSound tb c r.session × (AcceptsImages tb c bytes r × (BringsBack tb c bytes r × SavesAgain bytes r)))
    restore-gives r e = (e, rw e (call-keeps tb c (restore bytes), (accepts-images, (brings-back, saves-again))))

-- bytes, one by one
pub all-bytes : (l : List ℕ) → ((i : ℕ) → IsByte (get_or l i 0)) → All IsByte l
all-bytes [] h = tt
all-bytes (x ∷ l) h = (h 0, all-bytes l (λ i. h (suc i)))
