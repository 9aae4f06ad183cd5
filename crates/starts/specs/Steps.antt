-- The steps of a start on a stored session: what seeking, choosing and planning give.
use Rattle.std.specs.Prelude.{ℕ, zero, suc, ◌≡◌, Bool, true, false, List, eqb, Option, None, Result, Ok}
use Rattle.model.specs.declared.Change.{Change}
use Rattle.model.specs.declared.Effect.{Effect}
use Rattle.model.specs.declared.Flags.{Flags}
use Rattle.model.specs.declared.Found.{Found}
use Rattle.model.specs.declared.Position.{Position}
use Rattle.model.specs.declared.Rule.{Rule}
use Rattle.model.specs.declared.Refusal.{Refusal}
use Rattle.model.specs.Refusals.{refusal, refusal_in, unless}
use Rattle.model.specs.Session.{top}
use Rattle.model.specs.Flags.{flags_of}
use Rattle.model.specs.Search.{place_of}
use Rattle.model.specs.Rules.{choose}
use Rattle.model.specs.Effects.{effect_of}
use Rattle.model.specs.Counts.{created_by}
use Rattle.model.specs.Calls.{effect_in, caller_closes, no_history_after}
use Rattle.model.specs.Marks.{mark_after}
use Rattle.session.specs.declared.Session.{Session}
use Rattle.session.specs.declared.Task.{Task}
use Rattle.session.specs.Stored.{view, view_task, task_behind}
use Rattle.rules.specs.Shows.{index_of}
use Rattle.rules.specs.Startable.{Startable}
use Rattle.rules.specs.Rooms.{room_by}
use Rattle.rules.specs.Groups.{rule_by}
use Rattle.effects.specs.Fronted.{shift_of, above_for, front_after, closed_for, count_after, main_after}
use Rattle.starts.specs.Checks.{start_entry, room_refusal}
use Rattle.plans.specs.declared.Moved.{Moved}
use Rattle.plans.specs.declared.Plan.{Plan}
use Rattle.plans.specs.Plans.{closes_with, plan_with_no_history}
use Rattle.starts.specs.declared.Sought.{Sought}
use Rattle.starts.specs.declared.Chosen.{Chosen}
use Rattle.starts.specs.declared.Decided.{Decided}

-- ---- seeking

-- the start may be made, and this is sought: the task found is the choice's, and so is the rule that the group gives by what is
-- asked, over the task at the index
pub record Seeks (tb : List ℕ) (c : Session) (b : ℕ) (f : Flags) (x : Sought) : Type 0 where
  pub found : x.found ≡ (choose tb (view c) b f).found
  pub index : x.index ≡ index_of x.found
  pub rule : rule_by x.group x.asks (view_task (task_behind c x.index)) c.main b x.found ≡ (choose tb (view c) b f).rule
  pub noh : x.noh ≡ f.noh

-- the first of two refusals that is not 0
abbrev pub or_else : ℕ → ℕ → ℕ
or_else zero k = k
or_else (suc j) k = suc j

-- refused by k, the refusal of the checks before its own, or by its own, or sought
pub record SoughtFrom (tb : List ℕ) (c : Session) (b w k : ℕ) (x : Result Sought Refusal) : Type 0 where
  pub refusal : refusal_in x ≡ or_else k (refusal (start_entry tb c.n b w))
  pub seeks : (y : Sought) → x ≡ Ok y → Startable tb c b × Seeks tb c b (flags_of w) y

-- ---- choosing

-- by what was sought, where t is the task at its index
module _ (b : ℕ) (c : Session) (t : Task) (x : Sought) where
  abbrev pub rule_sought : Rule
  rule_sought = rule_by x.group x.asks (view_task t) c.main b x.found

  abbrev pub chosen_by : Chosen
  chosen_by =
      record { rule = rule_sought; effect = effect_of c.edition c.main rule_sought; place = place_of x.found }

  -- 23, 24, or 0
  abbrev pub room_sought : ℕ
  room_sought = room_by c.n t.height (effect_of c.edition c.main rule_sought)

-- what the definition chooses
abbrev pub chosen_stored : List ℕ → Session → ℕ → Flags → Chosen
chosen_stored tb c b f =
    record {
      rule = (choose tb (view c) b f).rule;
      effect = effect_in (view c) (choose tb (view c) b f);
      place = place_of (choose tb (view c) b f).found;
    }

-- ---- planning

abbrev pub mark_if : Bool → Effect → ℕ → Bool → Option Position
mark_if true d p is_b = mark_after d p is_b
mark_if false d p is_b = None

-- the task at the index of the task found
abbrev pub task_for : List ℕ → Session → ℕ → Flags → Task
task_for tb c b f = task_behind c (index_of (choose tb (view c) b f).found)

-- t and x were read and chosen, and there is room
pub record Plannable (tb : List ℕ) (c : Session) (b : ℕ) (f : Flags) (t : Task) (x : Chosen) : Type 0 where
  pub chosen : x ≡ chosen_stored tb c b f
  pub task : t ≡ task_for tb c b f
  pub room : room_refusal tb c b f ≡ 0

-- under some table and with some flags
abbrev pub PlannableSomehow : Session → ℕ → Task → Chosen → Type 0
PlannableSomehow c b t x = (tb : List ℕ) × ((f : Flags) × (Startable tb c b × Plannable tb c b f t x))

-- the rule chosen for a start of b, and the removal where the caller closes; t is the task at the index of the task found
module _ (b : ℕ) (c : Session) (t : Task) (x : Chosen) where
  abbrev pub plan_shift : ℕ
  plan_shift = shift_of x.effect x.place c.n

  abbrev pub plan_next : Task
  plan_next = front_after b x.effect t

  -- the screens that the effect closes, without the marked one
  abbrev pub plan_closed : ℕ
  plan_closed = closed_for x.effect t.height (above_for b x.effect t)

  abbrev pub plan_moved : Moved
  plan_moved =
      record {
        second = (task_behind c 0).height;
        shift = plan_shift;
        n = count_after x.effect c.n;
        main = main_after x.effect x.place c.main;
        edition = c.edition;
        closed = plan_closed;
      }

  module _ (caller : Bool) where
    abbrev pub plan_mark : Option Position
    plan_mark = mark_if caller x.effect x.place (eqb b (top (view_task (task_behind c 0))))

    abbrev pub carrying_plan : Plan
    carrying_plan = closes_with plan_mark plan_next plan_moved

  -- a start of b, or a finishing one, with or without the No-History flag
  abbrev pub start_plan : Bool → Bool → Plan
  start_plan finishing noh =
      plan_with_no_history (no_history_after finishing c.no_history noh x.rule x.effect)
      (carrying_plan (caller_closes finishing c.no_history x.rule))

-- ---- deciding

-- a plan that no rule made
abbrev pub without_rule : Plan → ℕ → Decided
without_rule p n =
    record { plan = p; rule = Rule.R18; effect = Effect.InFront Change.Keep; found = None; created = n; closed = 0 }

-- a start of b, or a finishing one, for which there is room: x was chosen, t is the task at the index of the task found
module _ (finishing noh : Bool) (found : Option Found) (b : ℕ) (c : Session) (t : Task) (x : Chosen) where
  abbrev pub accepted_by : Decided
  accepted_by =
      record {
        plan = start_plan b c t x finishing noh;
        rule = x.rule;
        effect = x.effect;
        found = found;
        created = created_by x.effect;
        closed = plan_closed b c t x;
      }

-- by what was sought: refused for want of room, or accepted
abbrev pub decided_by : Bool → ℕ → Session → Task → Sought → Result Decided ℕ
decided_by finishing b c t x = unless (room_sought b c t x) (accepted_by finishing x.noh x.found b c t (chosen_by b c t x))

-- by the definition, where k refused at its entry
abbrev pub decided_stored : ℕ → List ℕ → Session → ℕ → Flags → Bool → Result Decided ℕ
decided_stored k tb c b f finishing =
    unless (or_else k (room_refusal tb c b f))
    (accepted_by finishing f.noh (choose tb (view c) b f).found b c (task_for tb c b f) (chosen_stored tb c b f))

-- what deciding relies on: x was sought, under some table and with some flags, and t is the task at its index
abbrev pub Planned : Session → ℕ → Task → Sought → Type 0
Planned c b t x =
    (tb : List ℕ) × ((f : Flags) × (Startable tb c b × (Seeks tb c b f x × (t ≡ task_behind c x.index))))
