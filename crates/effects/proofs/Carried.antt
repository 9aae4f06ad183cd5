-- For callers: an effect that is ready in a sound session, and that the limits leave room for, can be carried out there.
use Prim.Native.Nat.{ℕ, ◌≤◌, ◌<◌}
use mathlib.Core.Path.{◌≡◌, subst}
use mathlib.Core.Bool.{true, false, ◌&&◌}
use mathlib.Core.List.{List}
use native.Mathlib.Omega.{arith}
use lib.Dec.{eqb}
use lib.ListN.{get_or}
use borrow.Author.Tests.{eqb-false}
use Rattle.model.specs.declared.Change.{Change}
use Rattle.model.specs.declared.Effect.{Effect}
use Rattle.model.specs.Session.{Stack, State, no_stack, task_at, front, height, count, most_tasks, most_height}
use Rattle.model.specs.Calls.{makes_task, is_push, overfills}
use Rattle.model.proofs.Logic.{All-at}
use Rattle.model.proofs.Sound.{TaskSound, Sound}
use Rattle.model.proofs.Effects.{Ready}
use Rattle.session.specs.declared.Session.{Session}
use Rattle.session.specs.Stored.{view, sound_stored}
use Rattle.session.proofs.StoredLaws.{sound-blank, sound-view}
use Rattle.effects.specs.Carriable.{HasRoom}
use Rattle.effects.proofs.Carriable.{Finds, Carriable}

has_room : (c : Change) (t : Stack ℕ) → height t ≤ most_height → (is_push c && eqb (height t) most_height) ≡ false → HasRoom c t
has_room c t low f q = omega (arith, low, eqb-false (height t) most_height (subst (λ (x : Change). (is_push x && eqb (height t) most_height) ≡ false) q f))

module _ (tb : List ℕ) (b : ℕ) (v : State ℕ) (h : Sound tb v) where
  low-at : (k : ℕ) → k < count v → height (get_or v.tasks k no_stack) ≤ most_height
  low-at k l = (All-at (TaskSound tb) v.tasks k no_stack l h.each).low

  finds : (d : Effect) (p : ℕ) → Ready tb b v d p → (makes_task d && eqb (count v) most_tasks) ≡ false → overfills d p v ≡ false → Finds d p v
  finds Effect.New p r e f = (omega (arith, h.few, eqb-false (count v) most_tasks e), h.place.most)
  finds (Effect.InFront c) p r e f = (r.0, has_room c (front v) (low-at 0 r.0) f)
  finds (Effect.MoveAnd c) p r e f = (r.0, has_room c (task_at v.tasks p) (low-at _ (omega arith)) f)

pub carriable : (tb : List ℕ) (b : ℕ) (s : Session) (d : Effect) (p : ℕ) → sound_stored tb s ≡ true → Ready tb b (view s) d p
    → (makes_task d && eqb (count (view s)) most_tasks) ≡ false → overfills d p (view s) ≡ false → Carriable s d p
carriable tb b s d p k r e f = record { blank = sound-blank tb s k; finds = finds tb b (view s) (sound-view tb s k) d p r e f }
