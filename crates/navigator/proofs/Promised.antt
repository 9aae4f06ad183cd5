-- What a call gives, with every clause of its contract.
use Prim.Native.Nat.{ℕ, zero, suc}
use mathlib.Core.Path.{◌≡◌, refl, ◌∙◌, ap}
use mathlib.Core.List.{List}
use native.Mathlib.Omega.{arith}
use Rattle.model.specs.Calls.{Call, look}
use Rattle.session.specs.declared.Session.{Session}
use Rattle.session.proofs.Known.{Sized}
use Rattle.calls.specs.declared.Reply.{Reply}
use Rattle.checks.specs.Shared.{shared_refusal}
use Rattle.calls.specs.StoredCalls.{call_stored, KeepsSound}
use Rattle.checks.proofs.SharedLaws.{shared-ready}
use Rattle.calls.proofs.Settling.{call-refused, call-gives, look-settled}
use Rattle.navigator.specs.Promise3.{KeepsPromise3}
use Rattle.navigator.proofs.Promise3Laws.{promise3}

module _ (tb : List ℕ) (c : Session) where
  -- "Look: changes nothing.", refused or not
  pub look-stays : Sized c → (call_stored tb c look).session ≡ c
  look-stays z = go (shared_refusal tb c) refl
    where
      go : (n : ℕ) → shared_refusal tb c ≡ n → (call_stored tb c look).session ≡ c
      go zero e = ap (λ (r : Reply). r.session) (look-settled tb c z (shared-ready tb c e))
      go (suc n) e = ap (λ (r : Reply). r.session) (call-refused tb c look (suc n) e (λ z. omega arith))

  module _ (r : Reply) where
    pub call-promised : (k : Call) → r ≡ call_stored tb c k
        → (r ≡ call_stored tb c k) × (KeepsSound tb c r.session × KeepsPromise3 tb)
    call-promised k e = let g = call-gives tb c k r e in (g.0, (g.1, promise3 tb))

    pub look-promised : Sized c → r ≡ call_stored tb c look
        → (r ≡ call_stored tb c look) × ((r.session ≡ c) × (KeepsSound tb c r.session × KeepsPromise3 tb))
    look-promised z e =
        let g = call-promised look e in (g.0, (ap (λ (x : Reply). x.session) e ∙ look-stays z, g.1))
