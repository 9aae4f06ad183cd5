-- Promise 3 of sound sessions under document 01's rules: the lifelong rules hold of each, and two have equal images exactly when
-- every list of later calls gets equal answers from both. Its image and its answers each determine a sound session.
use Prim.Native.Nat.{ℕ}
use mathlib.Core.Path.{◌≡◌, refl, sym, ◌∙◌, ap}
use mathlib.Core.Logic.{◌↔◌}
use mathlib.Core.Bool.{Bool, true, false}
use mathlib.Core.List.{List, [], ◌∷◌}
use Rattle.model.specs.Lists.{All}
use Rattle.model.specs.Table.{is_single_task, is_single_instance, roots_once, table_refusal}
use Rattle.model.specs.Session.{Stack, State}
use Rattle.model.specs.Image.{image}
use Rattle.model.specs.Histories.{answers, AnswerAlike, by_rules}
use Rattle.model.specs.Promises.{Lifelong, RootOfOne}
use Rattle.model.proofs.Logic.{contradiction, All-map, Pairwise-map}
use Rattle.model.proofs.Sound.{TaskSound, Sound}
use Rattle.model.proofs.ImageLaws.{image_injective}
use Rattle.model.proofs.Same.{answer-look-alike, same}

-- ---- the lifelong rules

-- in a task with a single-instance root that screen is alone, and in another no screen is single-instance
instance-alone : (tb : List ℕ) (t : Stack ℕ) → TaskSound tb t → All (λ x. is_single_instance tb x ≡ true → t.screens ≡ x ∷ []) t.screens
instance-alone tb t h = go (is_single_instance tb t.root) refl
  where
    go : (b : Bool) → is_single_instance tb t.root ≡ b → All (λ x. is_single_instance tb x ≡ true → t.screens ≡ x ∷ []) t.screens
    go true e = rw (h.lone e) (λ q. refl, tt)
    go false e = All-map (λ x p q. contradiction q p) t.screens (h.plain e)

-- a sound session keeps the lifelong rules
pub sound-lifelong : (tb : List ℕ) (s : State ℕ) → Sound tb s → Lifelong tb s
sound-lifelong tb s h =
    record {
      each_has_screen = All-map (λ t k. k.filled) s.tasks h.each;
      instance_is_alone = All-map (instance-alone tb) s.tasks h.each;
      roots_differ = h.pairs;
    }

-- so a single-task screen is the root of at most one task
pub lifelong-one : (tb : List ℕ) (s : State ℕ) → Lifelong tb s → (x : ℕ) → is_single_task tb x ≡ true → RootOfOne x s
unfolding roots_once
lifelong-one tb s h x e = Pairwise-map (λ t u d p q. d (rw (p, e) refl) (p ∙ sym q)) s.tasks h.roots_differ

-- ---- images and answers

-- sound sessions have equal images exactly when they answer alike
pub images-tell : (tb : List ℕ) → table_refusal tb ≡ 0 → (s t : State ℕ) → Sound tb s → Sound tb t → (image s ≡ image t) ↔ AnswerAlike (by_rules tb) s t
images-tell tb ok s t h k = (
  λ e cs l. ap (λ (u : State ℕ). answers (by_rules tb) u cs) (image_injective tb s t h k e),
  λ a. ap image (same tb ok s t h k (answer-look-alike tb s t a)),
)
