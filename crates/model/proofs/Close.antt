-- Closing a screen keeps a session sound: the task that it empties goes and m follows, or the roots stay as they are.
use Prim.Native.Nat.{ℕ, zero, suc, ◌≤◌, ◌<◌, zero-le, suc-le-suc, pred}
use mathlib.Core.Path.{◌≡◌, refl, sym, ◌∙◌, ap}
use mathlib.Core.Bool.{true, false, true≢false}
use mathlib.Core.List.{List, [], ◌∷◌, map}
use native.Mathlib.Nat.{le_trans, not-suc-le-zero, le_of_suc-le-suc}
use native.Mathlib.Omega.{arith}
use lib.Dec.{eqb, ltb}
use lib.ListN.{length, get_or, set, length-set, length-map, get_or-map}
use lib.Seq.{map-set_same}
use borrow.Author.Tests.{eqb-false, ltb-true, ltb-false}
use Rattle.model.specs.Lists.{is_empty, omit, Pairwise}
use Rattle.model.specs.Table.{size_of, roots_once}
use Rattle.model.specs.Session.{Stack, State, no_stack, on_screens, on_tasks, set_no_history, task_at, is_edition, edition_kept}
use Rattle.model.specs.Effects.{main_without, without_task, task_left, close}
use Rattle.model.specs.Calls.{backed}
use Rattle.model.proofs.Logic.{if-elim, All-at}
use Rattle.model.proofs.ListLaws.{All-omit, All-set, Pairwise-of-map, Pairwise-omit, Pairwise-to-map, is_empty-length, omit-before, omit-behind, omit-inside, omit-length, omit-length-le}
use Rattle.model.proofs.Sound.{TaskSound, RootsDiffer, MainSound, EditionSound, NoHistorySound, Sound, Plain}

-- ---- the two ways of closing

module _ {A : Type 0} (p i : ℕ) (s : State A) where
  -- the task loses its last screen, and goes
  pub close-emptied : is_empty (task_left p i s).screens ≡ true → close p i s ≡ without_task p (set_no_history 0 s)
  unfolding close
  close-emptied e = rw e

  -- other screens stay in the task
  pub close-kept : is_empty (task_left p i s).screens ≡ false → close p i s ≡ on_tasks (λ ts. set ts (pred p) (task_left p i s)) (set_no_history 0 s)
  unfolding close
  close-kept e = rw e

-- ---- what depends on the roots alone

abbrev pub roots_of : List (Stack ℕ) → List ℕ
roots_of ts = map (λ t. t.root) ts

module _ (tb : List ℕ) (ts us : List (Stack ℕ)) (e : roots_of ts ≡ roots_of us) where
  pub same-roots-pairs : Pairwise (RootsDiffer tb) ts → Pairwise (RootsDiffer tb) us
  same-roots-pairs h =
      Pairwise-of-map (λ t. t.root) Differ us (rw e at (Pairwise-to-map (λ t. t.root) Differ ts h))
    where
      Differ : ℕ → ℕ → Type 0
      Differ r q = roots_once tb r ≡ true → r ≡ q → ⊥

  pub same-roots-main : (m : ℕ) → MainSound tb ts m → MainSound tb us m
  same-roots-main m h =
      record {
        most = rw (sym (length-map ts (λ t. t.root)) ∙ ap length e ∙ length-map us (λ t. t.root)) at h.most;
        root = λ l. sym (get_or-map (λ t. t.root) us (pred m) no_stack) ∙ ap (λ (rs : List ℕ). get_or rs (pred m) 0) (sym e)
            ∙ get_or-map (λ t. t.root) ts (pred m) no_stack ∙ h.root l;
      }

-- ---- the main place

pub no_main : (tb : List ℕ) (ts : List (Stack ℕ)) → MainSound tb ts 0
no_main tb ts = record { most = zero-le; root = λ l. absurd (not-suc-le-zero l) }

-- the main task stands behind m others in ts, and at the place n in us
pub follows-main : (tb : List ℕ) (ts us : List (Stack ℕ)) (m n : ℕ) → n ≤ length us → task_at us n ≡ task_at ts (suc m)
    → MainSound tb ts (suc m) → MainSound tb us n
follows-main tb ts us m n l e h = record { most = l; root = λ x. ap (λ (t : Stack ℕ). t.root) e ∙ h.root (suc-le-suc zero-le) }

-- ---- the edition

-- "the session keeps it until empty, when it is 8 again"
pub kept-edition : (n e : ℕ) → is_edition e ≡ true → EditionSound n (edition_kept n e)
unfolding is_edition
kept-edition zero e h = record { known = refl; kept = refl }
kept-edition (suc n) e h = record { known = h; kept = refl }

-- ---- the No-History mark

-- none is sound in any session
pub no-mark : (n : ℕ) → NoHistorySound n 0
no-mark n = record { is_mark = zero-le; stands = zero-le }

-- ---- soundness

omit-lone : (i r : ℕ) → is_empty (omit i (r ∷ [])) ≡ false → omit i (r ∷ []) ≡ r ∷ []
omit-lone zero r e = absurd (true≢false e)
omit-lone (suc i) r e = refl

module _ (tb : List ℕ) where
  shortened-sound : (t : Stack ℕ) (i : ℕ) → is_empty (omit i t.screens) ≡ false
      → TaskSound tb t → TaskSound tb (on_screens (omit i) t)
  shortened-sound t i e k =
      record {
        filled = is_empty-length (omit i t.screens) e;
        low = le_trans (omit-length-le i t.screens) k.low;
        known = k.known;
        below = All-omit (λ x. x < size_of tb) i t.screens k.below;
        lone = λ a. ap (omit i) (k.lone a) ∙ omit-lone i t.root (rw (k.lone a) at e);
        plain = λ a. All-omit (Plain tb) i t.screens (k.plain a);
      }

  -- m follows its task or becomes 0
  pub without-main : (k m : ℕ) (ts : List (Stack ℕ)) → MainSound tb ts m → MainSound tb (omit k ts) (main_without (suc k) m)
  unfolding main_without
  without-main k m ts h =
      if-elim (MainSound tb (omit k ts)) (eqb m (suc k)) _ _ (λ e. no_main tb (omit k ts))
      (λ e. if-elim (MainSound tb (omit k ts)) (ltb (suc k) m) _ _ (λ f. behind m (ltb-true (suc k) m f) h)
      (λ f. before m (omega (arith, eqb-false m (suc k) e, ltb-false (suc k) m f)) h))
    where
      behind : (n : ℕ) → suc k < n → MainSound tb ts n → MainSound tb (omit k ts) (pred n)
      behind zero l h = absurd (not-suc-le-zero l)
      behind (suc zero) l h = absurd (not-suc-le-zero (le_of_suc-le-suc l))
      behind (suc (suc n)) l h =
          let o : suc (length (omit k ts)) ≡ length ts = omit-length k ts (omega (arith, l, h.most)) in
          follows-main tb ts (omit k ts) (suc n) (suc n) (omega (arith, o, h.most)) (omit-behind no_stack k n ts (omega (arith, l))) h

      before : (n : ℕ) → n ≤ k → MainSound tb ts n → MainSound tb (omit k ts) n
      before zero l h = no_main tb (omit k ts)
      before (suc n) l h = follows-main tb ts (omit k ts) n (suc n) (omit-inside k (suc n) ts l h.most) (omit-before no_stack k n ts l) h

  module _ (k i : ℕ) (s : State ℕ) (h : Sound tb s) where
    emptied-sound : Sound tb (without_task (suc k) (set_no_history 0 s))
    emptied-sound =
        record {
          few = le_trans (omit-length-le k s.tasks) h.few;
          each = All-omit (TaskSound tb) k s.tasks h.each;
          pairs = Pairwise-omit (RootsDiffer tb) k s.tasks h.pairs;
          place = without-main k s.main s.tasks h.place;
          edition = kept-edition (length (omit k s.tasks)) s.edition h.edition.known;
          no_history = no-mark (length (omit k s.tasks));
        }

    abbrev left : Stack ℕ
    left = task_left (suc k) i s

    kept-sound : is_empty left.screens ≡ false → Sound tb (on_tasks (λ ts. set ts k left) (set_no_history 0 s))
    kept-sound e =
        record {
          few = rw (length-set s.tasks k left) h.few;
          each =
              All-set (TaskSound tb) k left s.tasks
              (λ l. shortened-sound (get_or s.tasks k no_stack) i e (All-at (TaskSound tb) s.tasks k no_stack l h.each)) h.each;
          pairs = same-roots-pairs tb s.tasks ts (sym same) h.pairs;
          place = same-roots-main tb s.tasks ts (sym same) s.main h.place;
          edition = rw (length-set s.tasks k left) h.edition;
          no_history = no-mark (length (set s.tasks k left));
        }
      where
        ts : List (Stack ℕ)
        ts = set s.tasks k left

        same : roots_of ts ≡ roots_of s.tasks
        same = map-set_same (λ t. t.root) s.tasks k left no_stack refl

-- at any depth in any task, or nowhere
pub close-sound : (tb : List ℕ) (k i : ℕ) (s : State ℕ) → Sound tb s → Sound tb (close (suc k) i s)
unfolding close
close-sound tb k i s h = if-elim (Sound tb) (is_empty (task_left (suc k) i s).screens) _ _ (λ e. emptied-sound tb k i s h) (kept-sound tb k i s h)

pub backed-sound : (tb : List ℕ) (s : State ℕ) → Sound tb s → Sound tb (backed s)
unfolding backed
backed-sound tb s h = close-sound tb 0 0 s h
