-- The limits of 16 tasks and 32 screens: 23 and 24 are given exactly where the rule that is used makes a seventeenth task, or
-- pushes onto a task of 32; and which rules make a task, and which push.
use Prim.Native.Nat.{ℕ, ◌<◌}
use mathlib.Core.Path.{◌≡◌, refl, ◌∙◌}
use mathlib.Core.Logic.{◌↔◌}
use mathlib.Core.Bool.{Bool, true, false, not, ◌&&◌, false≢true}
use mathlib.Core.List.{List, [], ◌∷◌}
use lib.Dec.{ltb, eqb}
use borrow.Author.Tests.{lt-ltb}
use Rattle.model.specs.declared.Rule.{Rule}
use Rattle.model.specs.declared.Choice.{Choice}
use Rattle.model.specs.declared.Change.{Change}
use Rattle.model.specs.declared.Effect.{Effect}
use Rattle.std.specs.Prelude.{if◌then◌else◌}
use Rattle.model.specs.Lists.{is_empty}
use Rattle.model.specs.Refusals.{check, refusal}
use Rattle.model.specs.Table.{size_of, table_refusal}
use Rattle.model.specs.Session.{Stack, State, no_stack, task_at, front, height, count, most_tasks, most_height, sound}
use Rattle.model.specs.Flags.{has_other_bit}
use Rattle.model.specs.Search.{place_of}
use Rattle.model.specs.Effects.{effect_of, reordered}
use Rattle.model.specs.Calls.{makes_task, is_push, overfills, room_checks, chosen, effect_in, start_checks, own_checks, start, finishing_start, refusal_of}
use Rattle.model.proofs.Logic.{if-elim, Decides, and-decides, eqb-decides, self-decides}
use Rattle.model.proofs.RefusalLaws.{refusal-passes, checks-own}
use Rattle.model.proofs.RuleLaws.{refusal-at}

-- ---- which rules

-- those of the rules whose effect passes the test, in an edition e with the main place m
abbrev pub rules_that : ℕ → ℕ → (Effect → Bool) → List Rule → List Rule
rules_that e m test [] = []
rules_that e m test (r ∷ rs) = if test (effect_of e m r) then r ∷ rules_that e m test rs else rules_that e m test rs

abbrev pub all_rules : List Rule
all_rules = Rule.R1 ∷ Rule.R2 ∷ Rule.R3 ∷ Rule.R4 ∷ Rule.R5 ∷ Rule.R6 ∷ Rule.R7 ∷ Rule.R8 ∷ Rule.R9 ∷ Rule.R10 ∷ Rule.R11 ∷ Rule.R12 ∷ Rule.R13 ∷ Rule.R14 ∷ Rule.R15 ∷ Rule.R16 ∷ Rule.R17 ∷ Rule.R18 ∷ []

-- a push, and not one after "empty"
abbrev pub pushes : Effect → Bool
pushes Effect.New = false
pushes (Effect.InFront c) = is_push c
pushes (Effect.MoveAnd c) = is_push c

-- "new" is done by R2, R6, R11 and R18, and by no other
pub making-rules : (e m : ℕ) → rules_that e m makes_task all_rules ≡ Rule.R2 ∷ Rule.R6 ∷ Rule.R11 ∷ Rule.R18 ∷ []
unfolding effect_of
making-rules e m = refl

-- R9 lifts, or in edition 7 may empty the task first: it needs no room
pub reordered-fits : (e m : ℕ) → is_push (reordered e m) ≡ false
unfolding reordered
reordered-fits e m = if-elim (λ c. is_push c ≡ false) (eqb e 7 && eqb m 1) Change.Renew Change.Lift (λ _. refl) (λ _. refl)

-- "push B" on a task that is not emptied is done by R5, R10, R14 and R17, and by no other
pub pushing-rules : (e m : ℕ) → rules_that e m pushes all_rules ≡ Rule.R5 ∷ Rule.R10 ∷ Rule.R14 ∷ Rule.R17 ∷ []
unfolding effect_of
pushing-rules e m = rw (reordered-fits e m)

-- ---- 23 and 24

new-decides : (d : Effect) → Decides (makes_task d) (d ≡ Effect.New)
new-decides Effect.New = record { holds = λ h. refl; shows = λ h. refl }
new-decides (Effect.InFront c) = record { holds = λ h. absurd (false≢true h); shows = λ h. cc }
new-decides (Effect.MoveAnd c) = record { holds = λ h. absurd (false≢true h); shows = λ h. cc }

-- the task that an effect changes: the front task, or the task found at the place p
abbrev pub changed_task : Effect → ℕ → State ℕ → Stack ℕ
changed_task Effect.New p s = no_stack
changed_task (Effect.InFront c) p s = front s
changed_task (Effect.MoveAnd c) p s = task_at s.tasks p

-- a push onto a task of 32 screens
abbrev pub Overfills : Effect → ℕ → State ℕ → Type 0
Overfills d p s = (pushes d ≡ true) × (height (changed_task d p s) ≡ most_height)

overfills-is : (d : Effect) (p : ℕ) (s : State ℕ) → overfills d p s ≡ (pushes d && eqb (height (changed_task d p s)) most_height)
overfills-is Effect.New p s = refl
overfills-is (Effect.InFront c) p s = refl
overfills-is (Effect.MoveAnd c) p s = refl

overfills-decides : (d : Effect) (p : ℕ) (s : State ℕ) → Decides (overfills d p s) (Overfills d p s)
overfills-decides d p s = rw overfills-is (and-decides (self-decides (pushes d)) (eqb-decides (height (changed_task d p s)) most_height))

-- an effect that overfills a task makes none
makes_none : (d : Effect) (p : ℕ) (s : State ℕ) (b : Bool) → overfills d p s ≡ true → (makes_task d && b) ≡ false
makes_none Effect.New p s b e = absurd (false≢true e)
makes_none (Effect.InFront c) p s b e = refl
makes_none (Effect.MoveAnd c) p s b e = refl

module _ (c : Choice) (s : State ℕ) where
  abbrev effect : Effect
  effect = effect_in s c

  abbrev place : ℕ
  place = place_of c.found

  abbrev tasks_full : Bool
  tasks_full = makes_task effect && eqb (count s) most_tasks

  tasks-full : Decides tasks_full ((effect ≡ Effect.New) × (count s ≡ most_tasks))
  tasks-full = and-decides (new-decides effect) (eqb-decides (count s) most_tasks)

  task-full : Decides (overfills effect place s) (Overfills effect place s)
  task-full = overfills-decides effect place s

  -- "23: a new task is needed and n = 16"
  pub room-23 : (refusal (room_checks c s) ≡ 23) ↔ ((effect_in s c ≡ Effect.New) × (count s ≡ most_tasks))
  room-23 = (λ e. tasks-full.holds (at.0 e).1, λ h. at.1 (tt, tasks-full.shows h))
    where
      at : (refusal (room_checks c s) ≡ 23) ↔ (Unit {0} × (tasks_full ≡ true))
      at = refusal-at [] (check 23 tasks_full) (check 24 (overfills effect place s) ∷ []) refl

  -- "24: a push onto a task of 32 (not after empty)"
  pub room-24 : (refusal (room_checks c s) ≡ 24) ↔ Overfills (effect_in s c) (place_of c.found) s
  room-24 = (λ e. task-full.holds (at.0 e).1, λ h. let f = task-full.shows h in at.1 ((makes_none effect place s (eqb (count s) most_tasks) f, tt), f))
    where
      at : (refusal (room_checks c s) ≡ 24) ↔ (((tasks_full ≡ false) × Unit {0}) × (overfills effect place s ≡ true))
      at = refusal-at (check 23 tasks_full ∷ []) (check 24 (overfills effect place s)) [] refl

-- ---- whole starts

-- where a start passes 1, 2, 20, 3, 4 and 21, only 23 and 24 are left
module _ (tb : List ℕ) (s : State ℕ) (b w : ℕ) (good : table_refusal tb ≡ 0) (is_sound : sound tb s ≡ true)
    (known : b < size_of tb) (six : has_other_bit w ≡ false) (some : is_empty s.tasks ≡ false) where
  pub start-room : refusal_of tb s (start b w) ≡ refusal (room_checks (chosen tb s b w) s)
  unfolding refusal_of own_checks
  start-room =
      rw is_sound (checks-own tb (start_checks tb s b w) good)
      ∙ refusal-passes 3 (not (ltb b (size_of tb))) _ (rw (lt-ltb b (size_of tb) known))
      ∙ refusal-passes 4 (has_other_bit w) _ six
      ∙ refusal-passes 21 (is_empty s.tasks) _ some

  -- "23: a new task is needed and n = 16": the rule that is used makes a task, and 16 stand
  pub start-23 : (refusal_of tb s (start b w) ≡ 23) ↔ ((effect_in s (chosen tb s b w) ≡ Effect.New) × (count s ≡ most_tasks))
  start-23 = rw start-room (room-23 (chosen tb s b w) s)

  -- "24: a push onto a task of 32 (not after empty)": the rule that is used pushes, onto a task of 32
  pub start-24 : (refusal_of tb s (start b w) ≡ 24)
      ↔ Overfills (effect_in s (chosen tb s b w)) (place_of (chosen tb s b w).found) s
  start-24 = rw start-room (room-24 (chosen tb s b w) s)

-- "A finishing start has the same checks"
pub finishing-same : (tb : List ℕ) (s : State ℕ) (b w : ℕ) → refusal_of tb s (finishing_start b w) ≡ refusal_of tb s (start b w)
unfolding refusal_of own_checks
finishing-same tb s b w = refl
