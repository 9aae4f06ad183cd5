-- An effect that is ready keeps a session sound: a move, a change of the front task's screens, a new task; then all of
-- them, where the limits leave room.
use Prim.Native.Nat.{ℕ, zero, suc, ◌≤◌, ◌<◌, zero-le, suc-le-suc, pred}
use mathlib.Core.Path.{◌≡◌, refl, sym}
use mathlib.Core.Bool.{true, false, ◌&&◌}
use mathlib.Core.List.{List, [], ◌∷◌}
use native.Mathlib.Nat.{not-suc-le-zero, le_of_suc-le-suc}
use native.Mathlib.Omega.{arith}
use lib.Dec.{eqb, ltb}
use lib.ListN.{length, drop, length-drop}
use borrow.Author.Tests.{eqb-true, eqb-false, ltb-true, ltb-false}
use Rattle.model.specs.declared.Change.{Change}
use Rattle.model.specs.declared.Effect.{Effect}
use Rattle.model.specs.Lists.{further, find, to_front, on_first, All}
use Rattle.model.specs.Table.{size_of}
use Rattle.model.specs.Session.{Stack, State, stack, no_stack, task_at, front, height, count, most_tasks, most_height}
use Rattle.model.specs.Search.{holds}
use Rattle.model.specs.Effects.{main_moved, move, changed, change_front, put_new, carry_out}
use Rattle.model.specs.Calls.{makes_task, is_push, overfills}
use Rattle.model.proofs.Logic.{if-elim, contradiction, All-at}
use Rattle.model.proofs.ListLaws.{to_front-length, to_front-first, to_front-before, to_front-behind, on_first-length, All-drop, All-toFront, All-onFirst, Pairwise-toFront, found_at}
use Rattle.model.proofs.Sound.{TaskSound, RootsDiffer, MainSound, Sound, Plain}
use Rattle.model.proofs.Close.{roots_of, no_main, follows-main, kept-edition, same-roots-pairs, same-roots-main}

-- ---- what an effect needs, but for the limits

module _ {A : Type 0} where
  -- p is the place of a task
  abbrev pub IsPlaceIn : State A → ℕ → Type 0
  IsPlaceIn s p = (1 ≤ p) × (p ≤ count s)

  pub moved_front : (p : ℕ) (s : State A) → IsPlaceIn s p → front (move p s) ≡ task_at s.tasks p
  unfolding move
  moved_front zero s l = absurd (not-suc-le-zero l.0)
  moved_front (suc k) s l = to_front-first no_stack k s.tasks l.1

-- a task that takes the screen b: neither its root nor b is single-instance
pub record Takes (tb : List ℕ) (b : ℕ) (t : Stack ℕ) : Type 0 where
  pub plain_root : Plain tb t.root
  pub plain_screen : Plain tb b

module _ (tb : List ℕ) (b : ℕ) where
  -- the task suits the change: it takes b, and holds b where b is to be cleared to or lifted
  abbrev pub Suits : Change → Stack ℕ → Type 0
  Suits Change.Keep t = Unit {0}
  Suits Change.Renew t = Takes tb b t
  Suits Change.Clear t = Takes tb b t × (holds b t.screens ≡ true)
  Suits Change.Lift t = Takes tb b t × (holds b t.screens ≡ true)
  Suits Change.Push t = Takes tb b t

  -- no task has the root that a new task of b would have, if that root may be there once only
  abbrev pub RootFree : List (Stack ℕ) → Type 0
  RootFree ts = All (RootsDiffer tb (stack b (b ∷ []))) ts

  -- the effect can be carried out in s; p is the place of the task found
  abbrev pub Ready : State ℕ → Effect → ℕ → Type 0
  Ready s Effect.New p = RootFree s.tasks
  Ready s (Effect.InFront c) p = (1 ≤ count s) × Suits c (front s)
  Ready s (Effect.MoveAnd c) p = IsPlaceIn s p × Suits c (task_at s.tasks p)

module _ (tb : List ℕ) where
  differ-flip : (t u : Stack ℕ) → RootsDiffer tb t u → RootsDiffer tb u t
  differ-flip t u f s e = f (rw e at s) (sym e)

  -- ---- move

  -- m follows its task
  pub moved-main : (k m : ℕ) (ts : List (Stack ℕ)) → k < length ts
      → MainSound tb ts m → MainSound tb (to_front k ts) (main_moved (suc k) m)
  unfolding main_moved
  moved-main k m ts l h =
      if-elim (MainSound tb (to_front k ts)) (eqb m 0) _ _ (λ e. no_main tb (to_front k ts))
      (λ e. if-elim (MainSound tb (to_front k ts)) (eqb m (suc k)) _ _ (λ f. itself (rw (eqb-true m (suc k) f) at h))
      (λ f. if-elim (MainSound tb (to_front k ts)) (ltb m (suc k)) _ _ (λ g. before m (eqb-false m 0 e) (ltb-true m (suc k) g) h)
      (λ g. behind m (omega (arith, eqb-false m (suc k) f, ltb-false m (suc k) g)) h)))
    where
      n : length (to_front k ts) ≡ length ts
      n = to_front-length k ts

      itself : MainSound tb ts (suc k) → MainSound tb (to_front k ts) 1
      itself h = follows-main tb ts (to_front k ts) k 1 (omega (arith, n, l)) (to_front-first no_stack k ts l) h

      before : (m : ℕ) → (m ≡ 0 → ⊥) → m < suc k → MainSound tb ts m → MainSound tb (to_front k ts) (suc m)
      before zero o g h = absurd (o refl)
      before (suc j) o g h =
          follows-main tb ts (to_front k ts) j (suc (suc j)) (omega (arith, n, l, g))
          (to_front-before no_stack k j ts l (le_of_suc-le-suc g)) h

      behind : (m : ℕ) → suc k < m → MainSound tb ts m → MainSound tb (to_front k ts) m
      behind zero g h = absurd (not-suc-le-zero g)
      behind (suc zero) g h = absurd (not-suc-le-zero (le_of_suc-le-suc g))
      behind (suc (suc j)) g h =
          follows-main tb ts (to_front k ts) (suc j) (suc (suc j)) (rw n h.most)
          (to_front-behind no_stack k j ts l (omega (arith, g))) h

  pub move-sound : (p : ℕ) (s : State ℕ) → IsPlaceIn s p → Sound tb s → Sound tb (move p s)
  unfolding move
  move-sound zero s l h = absurd (not-suc-le-zero l.0)
  move-sound (suc k) s l h =
      record {
        few = rw (to_front-length k s.tasks) h.few;
        each = All-toFront (TaskSound tb) k s.tasks h.each;
        pairs = Pairwise-toFront (RootsDiffer tb) differ-flip k s.tasks h.pairs;
        place = moved-main k s.main s.tasks l.1 h.place;
        edition = rw (to_front-length k s.tasks) h.edition;
        no_history = rw (to_front-length k s.tasks) h.no_history;
      }

  -- ---- a change of the front task's screens

  pub change-front-sound : (f : List ℕ → List ℕ) (s : State ℕ)
      → (TaskSound tb (front s) → TaskSound tb (stack (front s).root (f (front s).screens))) → Sound tb s → Sound tb (change_front f s)
  unfolding change_front
  change-front-sound f s g h =
      record {
        few = rw (on_first-length change s.tasks) h.few;
        each =
            All-onFirst (TaskSound tb) change no_stack s.tasks (λ l. g (All-at (TaskSound tb) s.tasks 0 no_stack l h.each)) h.each;
        pairs = same-roots-pairs tb s.tasks (on_first change s.tasks) (same s.tasks) h.pairs;
        place = same-roots-main tb s.tasks (on_first change s.tasks) (same s.tasks) s.main h.place;
        edition = rw (on_first-length change s.tasks) h.edition;
        no_history = rw (on_first-length change s.tasks) h.no_history;
      }
    where
      change : Stack ℕ → Stack ℕ
      change t = stack t.root (f t.screens)

      same : (ts : List (Stack ℕ)) → roots_of ts ≡ roots_of (on_first change ts)
      same [] = refl
      same (t ∷ ts) = refl

  module _ (b : ℕ) (known : b < size_of tb) where
    module _ (t : Stack ℕ) (takes : Takes tb b t) (k : TaskSound tb t) where
      -- a task that takes b, with other screens
      refilled : (xs : List ℕ) → 1 ≤ length xs → length xs ≤ most_height → All (λ x. x < size_of tb) xs → All (Plain tb) xs
          → TaskSound tb (stack t.root xs)
      refilled xs filled low below plain =
          record {
            filled = filled;
            low = low;
            known = k.known;
            below = below;
            lone = λ e. contradiction e takes.plain_root;
            plain = λ e. plain;
          }

      cleared-sound : holds b t.screens ≡ true → TaskSound tb (stack t.root (changed (eqb b) b Change.Clear t.screens))
      unfolding changed holds
      cleared-sound h =
          let i = pred (find (eqb b) t.screens) in
          let n : length (drop i t.screens) ≡ _ = length-drop i t.screens in
          refilled (drop i t.screens) (omega (arith, n, (found_at (eqb b) 0 t.screens h).inside)) (omega (arith, n, k.low))
          (All-drop (λ x. x < size_of tb) i t.screens k.below) (All-drop (Plain tb) i t.screens (k.plain takes.plain_root))

      lifted-sound : TaskSound tb (stack t.root (changed (eqb b) b Change.Lift t.screens))
      unfolding changed
      lifted-sound =
          let i = pred (find (eqb b) t.screens) in
          let n = to_front-length i t.screens in
          refilled (to_front i t.screens) (rw n k.filled) (rw n k.low)
          (All-toFront (λ x. x < size_of tb) i t.screens k.below) (All-toFront (Plain tb) i t.screens (k.plain takes.plain_root))

    -- a change that suits the task, if it is no push onto a task of the greatest height
    pub changed-sound : (c : Change) (t : Stack ℕ) → Suits tb b c t → (is_push c && eqb (height t) most_height) ≡ false
        → TaskSound tb t → TaskSound tb (stack t.root (changed (eqb b) b c t.screens))
    unfolding changed
    changed-sound Change.Keep t r e k = k
    changed-sound Change.Renew t r e k = refilled t r k (b ∷ []) (omega arith) (omega arith) (known, tt) (r.plain_screen, tt)
    changed-sound Change.Clear t r e k = cleared-sound t r.0 k r.1
    changed-sound Change.Lift t r e k = lifted-sound t r.0 k
    changed-sound Change.Push t r e k =
        refilled t r k (b ∷ t.screens) (suc-le-suc zero-le) (omega (arith, k.low, eqb-false (height t) most_height e)) (known, k.below)
        (r.plain_screen, k.plain r.plain_root)

    -- ---- a new task

    pub new-task-sound : TaskSound tb (stack b (b ∷ []))
    new-task-sound =
        record { filled = omega arith; low = omega arith; known = known; below = (known, tt); lone = λ e. refl; plain = λ e. (e, tt) }

    pub put-new-sound : (s : State ℕ) → RootFree tb b s.tasks → count s < most_tasks → Sound tb s → Sound tb (put_new b b s)
    unfolding put_new
    put-new-sound s r l h =
        record {
          few = l;
          each = (new-task-sound, h.each);
          pairs = (r, h.pairs);
          place = further-main s.main h.place;
          edition = kept-edition (suc (count s)) s.edition h.edition.known;
          no_history = record { is_mark = h.no_history.is_mark; stands = omega (arith, h.no_history.stands) };
        }
      where
        further-main : (m : ℕ) → MainSound tb s.tasks m → MainSound tb (stack b (b ∷ []) ∷ s.tasks) (further m)
        further-main zero k = no_main tb (stack b (b ∷ []) ∷ s.tasks)
        further-main (suc m) k = follows-main tb s.tasks (stack b (b ∷ []) ∷ s.tasks) m (suc (suc m)) (suc-le-suc k.most) refl k

    -- ---- any effect

    pub carry-sound : (d : Effect) (p : ℕ) (s : State ℕ) → Ready tb b s d p
        → (makes_task d && eqb (count s) most_tasks) ≡ false → overfills d p s ≡ false
        → Sound tb s → Sound tb (carry_out (eqb b) b b d p s)
    unfolding carry_out
    carry-sound Effect.New p s r e f h = put-new-sound s r (omega (arith, h.few, eqb-false (count s) most_tasks e)) h
    carry-sound (Effect.InFront c) p s r e f h = change-front-sound (changed (eqb b) b c) s (changed-sound c (front s) r.1 f) h
    carry-sound (Effect.MoveAnd c) p s r e f h =
        change-front-sound (changed (eqb b) b c) (move p s) (rw (moved_front p s r.0) (changed-sound c (task_at s.tasks p) r.1 f))
        (move-sound p s r.0 h)
