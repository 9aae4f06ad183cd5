-- The measure of a session, a sum over its tasks, for any weight of a task: what move, new, a change of the front task, an effect
-- and closing a screen do to it.
use Prim.Native.Nat.{ℕ, suc, pred, ◌+◌, ◌≤◌, ◌<◌}
use mathlib.Core.Path.{◌≡◌, refl}
use mathlib.Core.Bool.{Bool, true, false}
use mathlib.Core.List.{List, [], ◌∷◌}
use native.Mathlib.Omega.{arith}
use Rattle.model.specs.declared.Effect.{Effect}
use Rattle.std.specs.Prelude.{if◌then◌else◌}
use Rattle.model.specs.Lists.{is_empty, sum_of}
use Rattle.model.specs.Session.{Stack, State, stack, no_stack, on_screens, task_at, front, count}
use Rattle.model.specs.Effects.{move, changed, change_front, put_new, carry_out, task_left, close}
use Rattle.model.proofs.ListLaws.{to_front-length}
use Rattle.model.proofs.SumLaws.{sum-to_front, sum-omit, sum-set, sum-on_first}
use Rattle.model.proofs.Close.{close-emptied, close-kept}
use Rattle.model.proofs.Effects.{IsPlaceIn, moved_front}

module _ {A : Type 0} where
  -- the task that an effect changes is there
  abbrev pub HasTask : Effect → ℕ → State A → Type 0
  HasTask Effect.New p s = Unit {0}
  HasTask (Effect.InFront c) p s = 1 ≤ count s
  HasTask (Effect.MoveAnd c) p s = IsPlaceIn s p

  moved-count : (p : ℕ) (s : State A) → count (move p s) ≡ count s
  unfolding move
  moved-count p s = to_front-length (pred p) s.tasks

module _ {A : Type 0} (weight : Stack A → ℕ) where
  abbrev pub measure : State A → ℕ
  measure s = sum_of weight s.tasks

  pub move-measure : (p : ℕ) (s : State A) → measure (move p s) ≡ measure s
  unfolding move
  move-measure p s = sum-to_front weight (pred p) s.tasks

  pub new-measure : (b : ℕ) (new_b : A) (s : State A) → measure (put_new b new_b s) ≡ weight (stack b (new_b ∷ [])) + measure s
  unfolding put_new
  new-measure b new_b s = refl

  pub front-measure : (f : List A → List A) (s : State A) → 1 ≤ count s
      → measure (change_front f s) + weight (front s) ≡ measure s + weight (on_screens f (front s))
  unfolding change_front
  front-measure f s some = sum-on_first weight no_stack (on_screens f) s.tasks some

  -- ---- an effect: clear, lift, empty and push are changes of one task

  module _ (is_b : A → Bool) (b : ℕ) (new_b : A) where
    -- what the task that it changes weighs, and what the task in front weighs after it
    abbrev pub weight_before : Effect → ℕ → State A → ℕ
    weight_before Effect.New p s = 0
    weight_before (Effect.InFront c) p s = weight (front s)
    weight_before (Effect.MoveAnd c) p s = weight (task_at s.tasks p)

    abbrev pub weight_after : Effect → ℕ → State A → ℕ
    weight_after Effect.New p s = weight (stack b (new_b ∷ []))
    weight_after (Effect.InFront c) p s = weight (on_screens (changed is_b new_b c) (front s))
    weight_after (Effect.MoveAnd c) p s = weight (on_screens (changed is_b new_b c) (task_at s.tasks p))

    pub carry-measure : (d : Effect) (p : ℕ) (s : State A) → HasTask d p s
        → measure (carry_out is_b b new_b d p s) + weight_before d p s ≡ measure s + weight_after d p s
    unfolding carry_out
    carry-measure Effect.New p s h = omega (arith, new-measure b new_b s)
    carry-measure (Effect.InFront c) p s h = front-measure (changed is_b new_b c) s h
    carry-measure (Effect.MoveAnd c) p s h =
        let some : 1 ≤ count (move p s) = omega (arith, moved-count p s, h.0, h.1) in
        let f = front-measure (changed is_b new_b c) (move p s) some in
        rw (moved_front p s h, move-measure p s) at f

  -- ---- closing a screen: a task left empty goes

  pub close-measure : (k i : ℕ) (s : State A) → k < count s
      → let left = task_left (suc k) i s in
      measure (close (suc k) i s) + weight (task_at s.tasks (suc k)) ≡ measure s + (if is_empty left.screens then 0 else weight left)
  close-measure k i s l = go (is_empty (task_left (suc k) i s).screens) refl
    where
      go : (b : Bool) → is_empty (task_left (suc k) i s).screens ≡ b
          → measure (close (suc k) i s) + weight (task_at s.tasks (suc k)) ≡ measure s + (if b then 0 else weight (task_left (suc k) i s))
      go true e = rw (close-emptied (suc k) i s e) (omega (arith, sum-omit weight no_stack k s.tasks l))
      go false e = rw (close-kept (suc k) i s e) (sum-set weight no_stack k (task_left (suc k) i s) s.tasks l)
