-- The check for room by what is stored: the number of tasks, or the height of the task that the effect changes.
use Prim.Native.Nat.{ℕ, ◌≤◌}
use mathlib.Core.Path.{◌≡◌, refl, ◌∙◌}
use mathlib.Core.Bool.{Bool, true, false, ◌&&◌}
use mathlib.Core.List.{List, [], ◌∷◌}
use lib.Dec.{eqb}
use lib.ListN.{length}
use Rattle.model.specs.declared.Effect.{Effect}
use Rattle.model.specs.declared.Flags.{Flags}
use Rattle.model.specs.declared.Found.{Found}
use Rattle.model.specs.declared.Group.{Group}
use Rattle.model.specs.declared.Rule.{Rule}
use Rattle.std.specs.Prelude.{if◌then◌else◌, Option, None}
use Rattle.model.specs.Lists.{All, first}
use Rattle.model.specs.Refusals.{check, accepted, refusal}
use Rattle.model.specs.Session.{State, count, most_tasks, most_height}
use Rattle.model.specs.Search.{place_of}
use Rattle.model.specs.Rules.{rules_of, group_of, sought_by, fits, choose_in, choose}
use Rattle.model.specs.Effects.{effect_of}
use Rattle.model.specs.Calls.{effect_in, is_push, makes_task, overfills, room_checks}
use Rattle.model.proofs.Logic.{if-elim}
use Rattle.session.specs.declared.Task.{Task}
use Rattle.session.proofs.TaskLaws.{view-height}
use Rattle.rules.specs.Rooms.{room_by}
use Rattle.rules.proofs.Tasks.{Shows}

-- ---- only the group that seeks no task changes the front task

-- what holds of each rule of a group holds of the first that fits
first-all : {A : Type 0} (P : A → Type 0) (d : A) (p : A → Bool) (xs : List A) → P d → All P xs → P (first d p xs)
first-all P d p [] z h = z
first-all P d p (x ∷ xs) z h = if-elim P (p x) x (first d p xs) (λ _. h.0) (λ _. first-all P d p xs z h.1)

-- an effect that changes the front task comes only where t is no task
abbrev pub FrontUnsought : Option Found → Effect → Type 0
FrontUnsought t Effect.New = Unit {0}
FrontUnsought t (Effect.InFront x) = t ≡ None
FrontUnsought t (Effect.MoveAnd x) = Unit {0}

module _ (tb : List ℕ) (v : State ℕ) (b : ℕ) (f : Flags) where
  unsought-each : (g : Group) → All (λ r. FrontUnsought (sought_by tb v b f g) (effect_of v.edition v.main r)) (rules_of g)
  unfolding rules_of sought_by effect_of
  unsought-each Group.Instance = (tt, (tt, tt))
  unsought-each Group.Task = (tt, (tt, (tt, (tt, tt))))
  unsought-each Group.NotApart = (refl, (refl, (refl, (refl, tt))))
  unsought-each Group.Apart = (tt, (tt, (tt, (tt, (tt, (tt, (tt, (tt, tt))))))))

  unsought-in : (g : Group) → FrontUnsought (choose_in tb v b f g).found (effect_in v (choose_in tb v b f g))
  unfolding choose_in effect_of
  unsought-in g =
      let t = sought_by tb v b f g in
      first-all (λ r. FrontUnsought t (effect_of v.edition v.main r)) Rule.R18 (fits tb v b f t) (rules_of g) tt (unsought-each g)

  pub unsought : FrontUnsought (choose tb v b f).found (effect_in v (choose tb v b f))
  unfolding choose
  unsought = unsought-in (group_of tb v b f)

-- ---- the check

one-check : (k : ℕ) (b : Bool) → (if b then check k b else accepted).refusal ≡ (if b then k else 0)
one-check k true = refl
one-check k false = refl

module _ (v : State ℕ) (t : Task) (l : t.height ≤ length t.screens) where
  room-by-effect : (found : Option Found) (d : Effect) → FrontUnsought found d → Shows v found t
      → refusal (check 23 (makes_task d && eqb (count v) most_tasks) ∷ check 24 (overfills d (place_of found) v) ∷ []) ≡ room_by (count v) t.height d
  unfolding refusal
  room-by-effect found Effect.New u h = one-check 23 (eqb (count v) most_tasks)
  room-by-effect found (Effect.InFront x) u h = rw (rw u at h, view-height t l) (one-check 24 (is_push x && eqb t.height most_height))
  room-by-effect found (Effect.MoveAnd x) u h = rw (h, view-height t l) (one-check 24 (is_push x && eqb t.height most_height))

  -- the room of a start's choice, by what is read of the session
  pub room-read : (tb : List ℕ) (b : ℕ) (f : Flags) → Shows v (choose tb v b f).found t → {n : ℕ} → count v ≡ n
      → {d : Effect} → d ≡ effect_in v (choose tb v b f) → refusal (room_checks (choose tb v b f) v) ≡ room_by n t.height d
  room-read tb b f h k e = room-by-effect (choose tb v b f).found (effect_in v (choose tb v b f)) (unsought tb v b f) h ∙ rw (k, e)
