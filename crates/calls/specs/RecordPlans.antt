-- What is decided for a record.
use Rattle.std.specs.Prelude.{ℕ, Bool, true, false, List, Option, Some, None, Result, Ok, Err}
use Rattle.model.specs.Refusals.{refusal, unless}
use Rattle.model.specs.Flags.{flags_of}
use Rattle.session.specs.declared.Session.{Session}
use Rattle.records.specs.declared.Asked.{Asked}
use Rattle.plans.specs.declared.Plan.{Plan}
use Rattle.plans.specs.Plans.{still_of}
use Rattle.starts.specs.declared.Decided.{Decided}
use Rattle.starts.specs.Checks.{start_entry}
use Rattle.starts.specs.Steps.{or_else, without_rule, decided_stored}
use Rattle.calls.specs.CallPlans.{launch_plan, back_plan}

-- the plan of what is decided, and the screens that it creates
abbrev pub plan_in : Result Decided ℕ → Result Plan ℕ
plan_in (Ok d) = Ok d.plan
plan_in (Err n) = Err n

abbrev pub created_in : Result Decided ℕ → ℕ
created_in (Ok d) = d.created
created_in (Err n) = 0

-- what is decided of a call with this plan, which creates k screens, and which no rule of a start made
abbrev pub unruled : ℕ → Result Plan ℕ → Result Decided ℕ
unruled k (Ok p) = Ok (without_rule p k)
unruled k (Err n) = Err n

-- a start of the screen b with the flag word w, or a finishing one, where k refused before
abbrev pub start_decided : ℕ → List ℕ → Session → ℕ → ℕ → Bool → Result Decided ℕ
start_decided k tb c b w finishing = decided_stored (or_else k (refusal (start_entry tb c.n b w))) tb c b (flags_of w) finishing

-- what is decided of what a record asks for; k is the refusal of the checks before the call's own, b its screen and w its word
abbrev pub decided_for : Option Asked → List ℕ → Session → ℕ → ℕ → ℕ → Result Decided ℕ
decided_for (Some Asked.Launch) tb c k b w = unruled 1 (launch_plan k tb c b)
decided_for (Some Asked.Start) tb c k b w = start_decided k tb c b w false
decided_for (Some Asked.FinishingStart) tb c k b w = start_decided k tb c b w true
decided_for (Some Asked.Back) tb c k b w = unruled 0 (back_plan k c)
decided_for (Some Asked.Look) tb c k b w = unless k (without_rule (still_of c) 0)
decided_for None tb c k b w = Err 9
