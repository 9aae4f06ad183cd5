-- The screens that the call of a record creates, by what the program's call gives.
use Prim.Native.Nat.{ℕ, zero, suc}
use mathlib.Core.Path.{◌≡◌, refl, sym, ◌∙◌, ap}
use mathlib.Core.List.{List, [], ◌∷◌}
use native.Mathlib.Omega.{arith}
use Rattle.model.specs.Calls.{Call, restore, created_of}
use Rattle.model.specs.Player.{Request, unplayable, asks}
use Rattle.model.specs.Histories.{along}
use Rattle.model.specs.Balance.{if_accepted, created}
use Rattle.model.proofs.Keeps.{refusal-own}
use Rattle.session.specs.declared.Session.{Session}
use Rattle.session.specs.Stored.{view, Ready}
use Rattle.session.proofs.StoredLaws.{sound-view}
use Rattle.calls.specs.StoredCalls.{refusal_stored, created_stored}
use Rattle.calls.proofs.Settling.{number-own}
use Rattle.recording.specs.CallBytes.{call_asked}
use Rattle.recording.specs.Counts.{created_for}

module _ (tb : List ℕ) (c : Session) (h : Ready tb c) where
  one-call : (k : Call) → if_accepted (refusal_stored tb c k) (created_of tb (view c) k) ≡ created_for tb (view c) (k ∷ [])
  unfolding along
  one-call k =
      let f : if_accepted (refusal_stored tb c k) (created_of tb (view c) k) ≡ created tb (view c) k =
      ap (λ (n : ℕ). if_accepted n (created_of tb (view c) k))
      (number-own tb c k h ∙ sym (refusal-own tb h.good (view c) (sound-view tb c h.sound) k)) in
      omega (arith, f)

  pub asked-created : (q : Request) → created_stored tb c q ≡ created_for tb (view c) (call_asked q)
  unfolding along
  asked-created unplayable = refl
  asked-created (asks k) = one-call k

  pub restore-creates : (bytes : List ℕ) → 0 ≡ created_for tb (view c) (restore bytes ∷ [])
  unfolding created_of
  restore-creates bytes = none (refusal_stored tb c (restore bytes)) ∙ one-call (restore bytes)
    where
      none : (n : ℕ) → 0 ≡ if_accepted n 0
      none zero = refl
      none (suc n) = refl
