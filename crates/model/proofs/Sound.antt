-- Soundness as a record of statements, and that 01's test decides it.
use Prim.Native.Nat.{ℕ, zero, suc, ◌≤◌, ◌<◌, zero-le, suc-le-suc}
use mathlib.Core.Path.{◌≡◌, refl, ap}
use mathlib.Core.Bool.{Bool, true, false, not, ◌&&◌, ◌||◌, true≢false, false≢true}
use mathlib.Core.List.{List, [], ◌∷◌, nil≢cons, cons≢nil, head-eq_of_cons-eq, tail-eq_of_cons-eq}
use native.Mathlib.Nat.{not-suc-le-zero}
use native.Mathlib.Omega.{arith}
use lib.ListN.{length}
use lib.Dec.{leb, ltb, eqb}
use borrow.Author.Tests.{ne_eqb}
use Rattle.std.specs.Prelude.{if◌then◌else◌}
use Rattle.model.specs.Lists.{all, pairwise, All, Pairwise}
use Rattle.model.specs.Table.{size_of, main_screen, is_single_instance, roots_once}
use Rattle.model.specs.Session.{Stack, State, task_at, height, count, is_alone, height_fits, screens_known, instance_alone, task_sound, roots_differ, main_sound, edition_sound, no_history_sound, sound, most_tasks, most_height, is_edition, edition_kept}
use Rattle.model.proofs.Logic.{Decides, and-decides, not-decides, leb-decides, ltb-decides, eqb-decides, self-decides, false-decides, all-decides, pairwise-decides}

-- not single-instance
abbrev pub Plain : List ℕ → ℕ → Type 0
Plain tb x = is_single_instance tb x ≡ false

pub record TaskSound (tb : List ℕ) (t : Stack ℕ) : Type 0 where
  pub filled : 1 ≤ height t
  pub low : height t ≤ most_height
  pub known : t.root < size_of tb
  pub below : All (λ x. x < size_of tb) t.screens
  pub lone : is_single_instance tb t.root ≡ true → t.screens ≡ t.root ∷ []
  pub plain : is_single_instance tb t.root ≡ false → All (Plain tb) t.screens

-- no single-task or single-instance screen is the root of both
abbrev pub RootsDiffer : List ℕ → Stack ℕ → Stack ℕ → Type 0
RootsDiffer tb t u = roots_once tb t.root ≡ true → t.root ≡ u.root → ⊥

pub record MainSound (tb : List ℕ) (ts : List (Stack ℕ)) (m : ℕ) : Type 0 where
  pub most : m ≤ length ts
  pub root : 1 ≤ m → (task_at ts m).root ≡ main_screen tb

pub record EditionSound (n e : ℕ) : Type 0 where
  pub known : is_edition e ≡ true
  pub kept : edition_kept n e ≡ e

pub record NoHistorySound (n h : ℕ) : Type 0 where
  pub is_mark : h ≤ 1
  pub stands : h ≤ n

pub record Sound (tb : List ℕ) (s : State ℕ) : Type 0 where
  pub few : count s ≤ most_tasks
  pub each : All (TaskSound tb) s.tasks
  pub pairs : Pairwise (RootsDiffer tb) s.tasks
  pub place : MainSound tb s.tasks s.main
  pub edition : EditionSound (count s) s.edition
  pub no_history : NoHistorySound (count s) s.no_history

alone-decides : (r : ℕ) (xs : List ℕ) → Decides (is_alone r xs) (xs ≡ r ∷ [])
alone-decides r [] = record { holds = λ h. absurd (false≢true h); shows = λ h. absurd (nil≢cons h) }
alone-decides r (x ∷ []) =
    record {
      holds = λ h. ap (λ (z : ℕ). z ∷ []) ((eqb-decides x r).holds h);
      shows = λ h. (eqb-decides x r).shows (head-eq_of_cons-eq h);
    }
alone-decides r (x ∷ y ∷ ys) =
    record { holds = λ h. absurd (false≢true h); shows = λ h. absurd (cons≢nil (tail-eq_of_cons-eq h)) }

-- a statement for each answer of a test
branch-decides : {P Q : Type 0} (b x y : Bool) → Decides x P → Decides y Q → Decides (if b then x else y) ((b ≡ true → P) × (b ≡ false → Q))
branch-decides true x y d e =
    record { holds = λ h. (λ z. d.holds h, λ z. absurd (true≢false z)); shows = λ h. d.shows (h.0 refl) }
branch-decides false x y d e =
    record { holds = λ h. (λ z. absurd (false≢true z), λ z. e.holds h); shows = λ h. e.shows (h.1 refl) }

-- 6, 7 and 8 are those between 6 and 8
pub edition-between : (e : ℕ) → is_edition e ≡ true → (6 ≤ e) × (e ≤ 8)
unfolding is_edition
edition-between e h = (and-decides (leb-decides 6 e) (leb-decides e 8)).holds h

-- m is 0, or the statement holds
or-decides : {P : Type 0} (m : ℕ) (b : Bool) → Decides b P → Decides (eqb m 0 || b) (1 ≤ m → P)
or-decides zero b d = record { holds = λ h l. absurd (not-suc-le-zero l); shows = λ h. refl }
or-decides (suc m) b d =
    rw (ne_eqb (suc m) 0 (λ e. omega arith)) (record { holds = λ h l. d.holds h; shows = λ h. d.shows (h (suc-le-suc zero-le)) })

module _ (tb : List ℕ) where
  pub task-decides : (t : Stack ℕ) → Decides (task_sound tb t) (TaskSound tb t)
  unfolding task_sound height_fits screens_known instance_alone
  task-decides t =
      record {
        holds = λ h.
            let r = d.holds h in
            record { filled = r.0.0; low = r.0.1; known = r.1.0.0; below = r.1.0.1; lone = r.1.1.0; plain = r.1.1.1 };
        shows = λ k. d.shows ((k.filled, k.low), ((k.known, k.below), (k.lone, k.plain)));
      }
    where
      d : Decides
          ((leb 1 (height t) && leb (height t) most_height)
          && ((ltb t.root (size_of tb) && all (λ x. ltb x (size_of tb)) t.screens)
          && (if is_single_instance tb t.root then is_alone t.root t.screens else all (λ x. not (is_single_instance tb x)) t.screens)))
          (((1 ≤ height t) × (height t ≤ most_height))
          × (((t.root < size_of tb) × All (λ x. x < size_of tb) t.screens)
          × ((is_single_instance tb t.root ≡ true → t.screens ≡ t.root ∷ []) × (is_single_instance tb t.root ≡ false → All (Plain tb) t.screens))))
      d =
          and-decides (and-decides (leb-decides 1 (height t)) (leb-decides (height t) most_height))
          (and-decides (and-decides (ltb-decides t.root (size_of tb)) (all-decides (λ x. ltb-decides x (size_of tb)) t.screens))
          (branch-decides (is_single_instance tb t.root) _ _ (alone-decides t.root t.screens)
          (all-decides (λ x. false-decides (is_single_instance tb x)) t.screens)))

  differ-decides : (t u : Stack ℕ) → Decides (roots_differ tb t u) (RootsDiffer tb t u)
  unfolding roots_differ
  differ-decides t u = record { holds = λ h a b. d.holds h (a, b); shows = λ k. d.shows (λ h. k h.0 h.1) }
    where
      d : Decides (not (roots_once tb t.root && eqb t.root u.root)) ((roots_once tb t.root ≡ true) × (t.root ≡ u.root) → ⊥)
      d = not-decides (and-decides (self-decides (roots_once tb t.root)) (eqb-decides t.root u.root))

  main-decides : (ts : List (Stack ℕ)) (m : ℕ) → Decides (main_sound tb ts m) (MainSound tb ts m)
  unfolding main_sound
  main-decides ts m =
      record { holds = λ h. let r = d.holds h in record { most = r.0; root = r.1 }; shows = λ k. d.shows (k.most, k.root) }
    where
      d : Decides (leb m (length ts) && (eqb m 0 || eqb (task_at ts m).root (main_screen tb)))
          ((m ≤ length ts) × (1 ≤ m → (task_at ts m).root ≡ main_screen tb))
      d = and-decides (leb-decides m (length ts)) (or-decides m _ (eqb-decides (task_at ts m).root (main_screen tb)))

  edition-decides : (n e : ℕ) → Decides (edition_sound n e) (EditionSound n e)
  unfolding edition_sound
  edition-decides n e =
      record { holds = λ h. let r = d.holds h in record { known = r.0; kept = r.1 }; shows = λ k. d.shows (k.known, k.kept) }
    where
      d : Decides (is_edition e && eqb (edition_kept n e) e) ((is_edition e ≡ true) × (edition_kept n e ≡ e))
      d = and-decides (self-decides (is_edition e)) (eqb-decides (edition_kept n e) e)

  no-history-decides : (n h : ℕ) → Decides (no_history_sound n h) (NoHistorySound n h)
  unfolding no_history_sound
  no-history-decides n h =
      record { holds = λ e. let r = d.holds e in record { is_mark = r.0; stands = r.1 }; shows = λ k. d.shows (k.is_mark, k.stands) }
    where
      d : Decides (leb h 1 && leb h n) ((h ≤ 1) × (h ≤ n))
      d = and-decides (leb-decides h 1) (leb-decides h n)

  pub sound-decides : (s : State ℕ) → Decides (sound tb s) (Sound tb s)
  unfolding sound
  sound-decides s =
      record {
        holds = λ h.
            let r = d.holds h in
            record { few = r.0.0.0; each = r.0.0.1; pairs = r.0.1.0; place = r.0.1.1; edition = r.1.0; no_history = r.1.1 };
        shows = λ k. d.shows (((k.few, k.each), (k.pairs, k.place)), (k.edition, k.no_history));
      }
    where
      d : Decides
          (((leb (count s) most_tasks && all (task_sound tb) s.tasks)
          && (pairwise (roots_differ tb) s.tasks && main_sound tb s.tasks s.main))
          && (edition_sound (count s) s.edition && no_history_sound (count s) s.no_history))
          ((((count s ≤ most_tasks) × All (TaskSound tb) s.tasks) × (Pairwise (RootsDiffer tb) s.tasks × MainSound tb s.tasks s.main))
          × (EditionSound (count s) s.edition × NoHistorySound (count s) s.no_history))
      d =
          and-decides
          (and-decides (and-decides (leb-decides (count s) most_tasks) (all-decides task-decides s.tasks))
          (and-decides (pairwise-decides differ-decides s.tasks) (main-decides s.tasks s.main)))
          (and-decides (edition-decides (count s) s.edition) (no-history-decides (count s) s.no_history))
