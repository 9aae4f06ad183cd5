-- Document 00: what is promised of every session, as statements over document 01's rules. Their proofs are in proofs/:
-- ImageLaws.antt and Promise3.antt. Promise 3 whole, over every list of calls, is a statement about the program: it stands
-- in `navigator`.
use Rattle.std.specs.Prelude.{ℕ, ◌≤◌, ◌≡◌, true, List, [], ◌∷◌}
use Rattle.model.specs.Lists.{All, Pairwise}
use Rattle.model.specs.Refusals.{refusal}
use Rattle.model.specs.Table.{is_single_instance, roots_once}
use Rattle.model.specs.Session.{State, height, sound}
use Rattle.model.specs.Image.{image, image_checks, session_in}
use Rattle.model.specs.Histories.{IsByte}

-- Promise 2: "Save writes a session's only image. Restore .. accepts exactly the images of sound sessions and brings
-- that session back."
pub record ImagesExact (tb : List ℕ) : Type 0 where
  -- an image of a sound session is accepted
  pub accepts : (s : State ℕ) → sound tb s ≡ true → refusal (image_checks tb (image s)) ≡ 0
  -- and read as that session
  pub brings_back : (s : State ℕ) → sound tb s ≡ true → session_in (image s) ≡ s
  -- what is accepted reads as a sound session
  pub sound_only : (bytes : List ℕ) → refusal (image_checks tb bytes) ≡ 0 → sound tb (session_in bytes) ≡ true
  -- whose image it is
  pub images_only : (bytes : List ℕ) → All IsByte bytes → refusal (image_checks tb bytes) ≡ 0
      → image (session_in bytes) ≡ bytes

-- Promise 3: "each task has a screen, a single-instance screen is alone in its task, and no single-task or
-- single-instance screen is the root of two tasks"
pub record Lifelong (tb : List ℕ) (s : State ℕ) : Type 0 where
  pub each_has_screen : All (λ t. 1 ≤ height t) s.tasks
  pub instance_is_alone : All (λ t. All (λ x. is_single_instance tb x ≡ true → t.screens ≡ x ∷ []) t.screens) s.tasks
  pub roots_differ : Pairwise (λ t u. roots_once tb t.root ≡ true → t.root ≡ u.root → ⊥) s.tasks

-- the screen x is the root of at most one task
abbrev pub RootOfOne : ℕ → State ℕ → Type 0
RootOfOne x s = Pairwise (λ t u. t.root ≡ x → u.root ≡ x → ⊥) s.tasks
