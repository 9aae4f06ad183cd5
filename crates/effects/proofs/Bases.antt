-- What b is pushed onto; and the task in front after an effect, told by the change of its screens and by its root.
use Prim.Native.Nat.{ℕ, ◌<◌}
use mathlib.Core.Path.{◌≡◌, refl, sym}
use mathlib.Core.List.{[], ◌∷◌}
use native.Mathlib.Omega.{arith}
use Rattle.model.specs.declared.Change.{Change}
use Rattle.model.specs.declared.Effect.{Effect}
use Rattle.model.specs.Session.{most_height}
use Rattle.model.specs.Effects.{changed}
use Rattle.session.specs.declared.Task.{Task}
use Rattle.session.specs.Stored.{hold_task, pushed}
use Rattle.session.proofs.Setters.{with_root}
use Rattle.session.proofs.Known.{Screens32}
use Rattle.session.proofs.TaskLaws.{hold-pushed}
use Rattle.effects.specs.Carriable.{Alterable}
use Rattle.effects.specs.Fronted.{base_of, changed_task, change_of, root_after, front_after}
use Rattle.effects.proofs.Tags.{OneOf, of-change}
use Rattle.effects.proofs.Changes.{blank-height, push-is}

module _ (t : Task) where
  pub base_kept : (c : Change) → OneOf (Change.Keep ∷ Change.Clear ∷ Change.Lift ∷ Change.Push ∷ []) c → t ≡ base_of c t
  base_kept c = of-change (λ d. t ≡ base_of d t) c (Change.Keep ∷ Change.Clear ∷ Change.Lift ∷ Change.Push ∷ []) (refl, (refl, (refl, (refl, tt))))

  -- a renewal and a push
  module _ (l : Screens32 t) (c : Change) (k : OneOf (Change.Renew ∷ Change.Push ∷ []) c) where
    pub base-low : Alterable c t → (base_of c t).height < most_height
    unfolding hold_task
    base-low =
        of-change (λ d. Alterable d t → (base_of d t).height < most_height) c (Change.Renew ∷ Change.Push ∷ [])
        (λ h. omega arith, (λ h. let e = blank-height t l h.0 in omega (arith, h.1), tt)) k

    pub base-pushed : (b : ℕ) → Alterable c t → pushed (base_of c t) b ≡ changed_task b c t
    unfolding changed
    base-pushed b =
        of-change (λ d. Alterable d t → pushed (base_of d t) b ≡ changed_task b d t) c (Change.Renew ∷ Change.Push ∷ [])
        (λ h. sym (hold-pushed t.root b [] (omega arith)), (λ h. sym (push-is t l h.0 b h.1), tt)) k

  -- ---- effects

  pub front-is : (b : ℕ) (d : Effect) → with_root (changed_task b (change_of d) t) (root_after t.root b d) ≡ front_after b d t
  unfolding hold_task changed
  front-is b Effect.New = refl
  front-is b (Effect.InFront c) = refl
  front-is b (Effect.MoveAnd c) = refl
