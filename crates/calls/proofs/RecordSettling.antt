-- A record by what is decided of it: that its plan gives what it asks for, and the screens that it creates.
use Prim.Native.Nat.{ℕ, zero, suc}
use mathlib.Core.Path.{◌≡◌, refl, ◌∙◌, ap}
use mathlib.Core.Bool.{Bool, true, false}
use mathlib.Core.List.{List}
use Rattle.std.specs.Prelude.{Option, Some, None, Result, Ok, Err}
use Rattle.model.specs.Refusals.{refusal, unless}
use Rattle.model.specs.Flags.{flags_of}
use Rattle.model.specs.Calls.{launch, back, look, chosen, created_by_choice, created_of}
use Rattle.model.specs.Balance.{if_accepted}
use Rattle.session.specs.declared.Session.{Session}
use Rattle.session.specs.Stored.{view}
use Rattle.session.proofs.Known.{Sized}
use Rattle.records.specs.declared.Asked.{Asked}
use Rattle.records.specs.Records.{request_by}
use Rattle.plans.specs.declared.Plan.{Plan}
use Rattle.plans.specs.Plans.{still_of}
use Rattle.starts.specs.Checks.{start_entry, room_refusal}
use Rattle.starts.specs.Steps.{or_else, without_rule}
use Rattle.checks.specs.Shared.{shared_refusal}
use Rattle.calls.specs.StoredCalls.{start_of, refusal_stored, reply_stored, created_stored}
use Rattle.calls.specs.CallPlans.{launch_refusal, launch_plan, back_plan}
use Rattle.calls.specs.RecordPlans.{plan_in, created_in, unruled, start_decided, decided_for}
use Rattle.calls.proofs.PlanSettling.{Gives, refused-gives, plan-refusal, look-gives, launch-number, launch-gives, back-gives, start-refusal, start-gives, roomy}

-- the plan of a call that no rule made
unruled-plan : (k : ℕ) (x : Result Plan ℕ) → plan_in (unruled k x) ≡ x
unruled-plan k (Ok p) = refl
unruled-plan k (Err n) = refl

still-plan : (k : ℕ) (c : Session) → plan_in (unless k (without_rule (still_of c) 0)) ≡ unless k (still_of c)
still-plan zero c = refl
still-plan (suc k) c = refl

-- k is the refusal of the checks that all calls share
module _ (tb : List ℕ) (c : Session) (z : Sized c) (k : ℕ) (shared : k ≡ shared_refusal tb c) (b w : ℕ) where
  pub record-gives : (a : Option Asked) → Gives c (plan_in (decided_for a tb c k b w)) (reply_stored tb c (request_by a b w))
  record-gives (Some Asked.Launch) = rw (unruled-plan 1 (launch_plan k tb c b)) (launch-gives tb c z b k shared)
  record-gives (Some Asked.Start) = start-gives tb c z b w false k shared
  record-gives (Some Asked.FinishingStart) = start-gives tb c z b w true k shared
  record-gives (Some Asked.Back) = rw (unruled-plan 0 (back_plan k c)) (back-gives tb c z k shared)
  record-gives (Some Asked.Look) = rw (still-plan k c) (look-gives tb c z k shared)
  record-gives None = refused-gives c 9 refl

  -- ---- the screens that it creates

  -- none, where the call creates none
  none-created : (n : ℕ) (x : Result Plan ℕ) → created_in (unruled 0 x) ≡ if_accepted n 0
  none-created zero (Ok p) = refl
  none-created (suc n) (Ok p) = refl
  none-created zero (Err m) = refl
  none-created (suc n) (Err m) = refl

  launch-created : (n : ℕ) (p : Plan) → created_in (unruled 1 (unless n p)) ≡ if_accepted n 1
  launch-created zero p = refl
  launch-created (suc n) p = refl

  look-created : (n m : ℕ) → created_in (unless n (without_rule (still_of c) 0)) ≡ if_accepted m 0
  look-created zero zero = refl
  look-created zero (suc m) = refl
  look-created (suc n) zero = refl
  look-created (suc n) (suc m) = refl

  -- by a start: as many as its rule creates, where it is accepted
  start-created : (fin : Bool) → created_in (start_decided k tb c b w fin) ≡ if_accepted (refusal_stored tb c (start_of fin b w)) (created_by_choice (chosen tb (view c) b w) (view c))
  start-created fin =
      go (or_else (or_else k (refusal (start_entry tb c.n b w))) (room_refusal tb c b (flags_of w)))
      ∙ ap (λ (n : ℕ). if_accepted n (created_by_choice (chosen tb (view c) b w) (view c))) (start-refusal tb c z b w fin k shared)
    where
      go : (n : ℕ) → created_in (unless n (roomy tb c b (flags_of w) fin)) ≡ if_accepted n (created_by_choice (chosen tb (view c) b w) (view c))
      go zero = refl
      go (suc n) = refl

  pub record-creates : (a : Option Asked) → created_in (decided_for a tb c k b w) ≡ created_stored tb c (request_by a b w)
  unfolding created_of
  record-creates (Some Asked.Launch) =
      launch-created (or_else k (launch_refusal c.n b)) _
      ∙ ap (λ (n : ℕ). if_accepted n 1) (plan-refusal tb c (launch b) k (launch_refusal c.n b) shared (launch-number tb c z b))
  record-creates (Some Asked.Start) = start-created false
  record-creates (Some Asked.FinishingStart) = start-created true
  record-creates (Some Asked.Back) = none-created (refusal_stored tb c back) (back_plan k c)
  record-creates (Some Asked.Look) = look-created k (refusal_stored tb c look)
  record-creates None = refl
