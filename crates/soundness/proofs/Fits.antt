-- Soundness of a stored session, in the terms in which the code tests it: each test of the code by itself.
use Prim.Native.Nat.{ℕ, zero, suc, pred, ◌≤◌, ◌<◌}
use mathlib.Core.Path.{◌≡◌, refl, sym, ◌∙◌}
use mathlib.Core.Bool.{Bool, true, false, not, ◌&&◌, ◌||◌}
use mathlib.Core.List.{List, map}
use native.Mathlib.Omega.{arith}
use lib.Dec.{leb, ltb, eqb}
use lib.ListN.{length, take, drop, length-take, length-map, get_or-map}
use borrow.Author.Tests.{eqb-true, eq-eqb, ne_eqb}
use Rattle.std.specs.Prelude.{if◌then◌else◌}
use Rattle.model.specs.Lists.{all, pairwise}
use Rattle.model.specs.Table.{size_of, roots_once}
use Rattle.model.specs.Session.{most_tasks, most_height, edition_kept, edition_sound, no_history_sound, task_sound, roots_differ, main_sound, sound}
use Rattle.model.proofs.Logic.{Decides, and-decides, leb-decides, ltb-decides, eqb-decides, self-decides, all-decides, same_test, and_left, and_right, All-map}
use Rattle.model.proofs.Sound.{task-decides}
use Rattle.model.proofs.Walks.{all_map, all_both, all-cong, all_true, pairwise_map}
use Rattle.session.specs.declared.Task.{Task}
use Rattle.session.specs.declared.Session.{Session}
use Rattle.session.specs.Stored.{no_task, view_task, view, root, roots_of, blank_above, is_blank, storage_blank, sound_stored}
use Rattle.places.specs.PlaceTests.{total, no_sum, used_sound, used_sum}
use Rattle.soundness.specs.Tests.{other_root, roots_known, may_be_roots, main_root_sound}
use Rattle.soundness.proofs.Sums.{total-zero, used-sum-decides}

-- ---- a task

-- the task is sound, and 0 stands beyond its height
unfoldable pub stored_task_sound : List ℕ → Task → Bool
stored_task_sound tb t = blank_above t && task_sound tb (view_task t)

module _ (tb : List ℕ) where
  -- the sum up to the height is that of all screens exactly where the task is sound and 0 stands beyond
  pub used-stored : (t : Task) → total t.screens < no_sum → eqb (used_sum tb t) (total t.screens) ≡ stored_task_sound tb t
  unfolding used_sum used_sound stored_task_sound blank_above
  used-stored t few =
      same_test (used-sum-decides t.height t.screens (used_sound tb t) few)
      (record {
        holds = λ h. let r = d.holds h in (u.shows (r.0.0, r.1), r.0.1);
        shows = λ k. let r = u.holds k.0 in d.shows ((r.0, k.1), r.1);
      })
    where
      low : Decides (leb t.height most_height) (t.height ≤ most_height)
      low = leb-decides t.height most_height

      u : Decides (leb t.height most_height && task_sound tb (view_task t)) ((t.height ≤ most_height) × (task_sound tb (view_task t) ≡ true))
      u = and-decides low (self-decides (task_sound tb (view_task t)))

      d : Decides ((leb t.height most_height && all (eqb 0) (drop t.height t.screens)) && task_sound tb (view_task t))
          (((t.height ≤ most_height) × (all (eqb 0) (drop t.height t.screens) ≡ true)) × (task_sound tb (view_task t) ≡ true))
      d = and-decides (and-decides low (self-decides (all (eqb 0) (drop t.height t.screens)))) (self-decides (task_sound tb (view_task t)))

  -- ---- roots

  pub differ-once : (x : ℕ) (ys : List ℕ) → roots_once tb x ≡ true → all (may_be_roots tb x) ys ≡ all (other_root x) ys
  unfolding may_be_roots other_root
  differ-once x ys e = all-cong (may_be_roots tb x) (other_root x) (λ y. rw e) ys

  pub differ-often : (x : ℕ) (ys : List ℕ) → roots_once tb x ≡ false → all (may_be_roots tb x) ys ≡ true
  unfolding may_be_roots
  differ-often x ys e = all_true (may_be_roots tb x) (λ y. rw e) ys

  pub root-known : (t : Task) → stored_task_sound tb t ≡ true → t.root < size_of tb
  unfolding stored_task_sound view_task
  root-known t e = ((task-decides tb (view_task t)).holds (and_right (blank_above t) (task_sound tb (view_task t)) e)).known

  pub roots-known : (ts : List Task) → all (stored_task_sound tb) ts ≡ true → roots_known tb (roots_of ts) ≡ true
  unfolding roots_known
  roots-known ts e =
      all_map root (λ x. ltb x (size_of tb)) ts
      ∙ (all-decides (λ t. ltb-decides t.root (size_of tb)) ts).shows
      (All-map root-known ts ((all-decides (λ t. self-decides (stored_task_sound tb t)) ts).holds e))

-- ---- a place in which no task stands

-- its screens add up to 0 under the root and the height 0 exactly where it is blank
pub blank-stored : (t : Task) → total t.screens < no_sum
    → eqb (if eqb t.root 0 && eqb t.height 0 then 0 else no_sum) (total t.screens) ≡ is_blank t
unfolding is_blank
blank-stored t few = go (eqb t.root 0) (eqb t.height 0)
  where
    go : (r h : Bool) → eqb (if r && h then 0 else no_sum) (total t.screens) ≡ (r && (h && all (eqb 0) t.screens))
    go true true = total-zero t.screens
    go true false = ne_eqb no_sum (total t.screens) (λ e. omega arith)
    go false h = ne_eqb no_sum (total t.screens) (λ e. omega arith)

pub blank-root-0 : (t : Task) → is_blank t ≡ true → t.root ≡ 0
unfolding is_blank
blank-root-0 t e = eqb-true t.root 0 (and_left (eqb t.root 0) (eqb t.height 0 && all (eqb 0) t.screens) e)

-- ---- the edition

-- the edition is the one kept exactly where a task stands or it is 8
pub edition-kept : (n e : ℕ) → eqb (edition_kept n e) e ≡ (not (eqb n 0) || eqb e 8)
edition-kept zero e =
    same_test (eqb-decides 8 e) (record { holds = λ h. sym ((eqb-decides e 8).holds h); shows = λ k. (eqb-decides e 8).shows (sym k) })
edition-kept (suc n) e = rw (eq-eqb e e refl, ne_eqb (suc n) 0 (λ z. omega arith))

-- ---- a session

pub record SessionFits (tb : List ℕ) (c : Session) : Type 0 where
  pub few : c.n ≤ most_tasks
  pub each : all (stored_task_sound tb) (take c.n c.tasks) ≡ true
  pub rest : all is_blank (drop c.n c.tasks) ≡ true
  pub pairs : pairwise (may_be_roots tb) (roots_of (take c.n c.tasks)) ≡ true
  pub place : main_root_sound tb (roots_of (take c.n c.tasks)) c.main ≡ true
  pub edition : edition_sound (length (take c.n c.tasks)) c.edition ≡ true
  pub no_history : no_history_sound (length (take c.n c.tasks)) c.no_history ≡ true

module _ (tb : List ℕ) (c : Session) where
  abbrev ts : List Task
  ts = take c.n c.tasks

  each-is : (all blank_above ts && all (task_sound tb) (map view_task ts)) ≡ all (stored_task_sound tb) ts
  unfolding stored_task_sound
  each-is = rw (all_map view_task (task_sound tb) ts) (all_both blank_above (λ t. task_sound tb (view_task t)) ts)

  pairs_is : pairwise (roots_differ tb) (map view_task ts) ≡ pairwise (may_be_roots tb) (roots_of ts)
  unfolding roots_differ may_be_roots view_task
  pairs_is = pairwise_map view_task (roots_differ tb) ts ∙ sym (pairwise_map root (may_be_roots tb) ts)

  place_is : main_sound tb (map view_task ts) c.main ≡ main_root_sound tb (roots_of ts) c.main
  unfolding main_sound main_root_sound view_task
  place_is =
      rw (
        length-map ts view_task,
        length-map ts root,
        get_or-map view_task ts (pred c.main) no_task,
        get_or-map root ts (pred c.main) no_task,
      )

  edition-is : edition_sound (length (map view_task ts)) c.edition ≡ edition_sound (length ts) c.edition
  edition-is = rw (length-map ts view_task)

  no-history-is : no_history_sound (length (map view_task ts)) c.no_history ≡ no_history_sound (length ts) c.no_history
  no-history-is = rw (length-map ts view_task)

  pub session-fits : Decides (sound_stored tb c) (SessionFits tb c)
  unfolding sound_stored storage_blank sound view
  session-fits =
      record {
        holds = λ h.
            let r = d.holds h in
            record {
              few = r.0.0;
              each = sym each-is ∙ both.shows (r.0.1.0, r.1.0.0.1);
              rest = r.0.1.1;
              pairs = sym pairs_is ∙ r.1.0.1.0;
              place = sym place_is ∙ r.1.0.1.1;
              edition = sym edition-is ∙ r.1.1.0;
              no_history = sym no-history-is ∙ r.1.1.1;
            };
        shows = λ f.
            let b = both.holds (each-is ∙ f.each) in
            let few : length (map view_task ts) ≤ most_tasks = omega (arith, f.few, length-take c.n c.tasks, length-map ts view_task) in
            d.shows ((f.few, (b.0, f.rest)), (((few, b.1), (pairs_is ∙ f.pairs, place_is ∙ f.place)), (edition-is ∙ f.edition, no-history-is ∙ f.no_history)));
      }
    where
      both : Decides (all blank_above ts && all (task_sound tb) (map view_task ts)) ((all blank_above ts ≡ true) × (all (task_sound tb) (map view_task ts) ≡ true))
      both = and-decides (self-decides (all blank_above ts)) (self-decides (all (task_sound tb) (map view_task ts)))

      d : Decides
          ((leb c.n most_tasks && (all blank_above ts && all is_blank (drop c.n c.tasks)))
          && (((leb (length (map view_task ts)) most_tasks && all (task_sound tb) (map view_task ts))
          && (pairwise (roots_differ tb) (map view_task ts) && main_sound tb (map view_task ts) c.main))
          && (edition_sound (length (map view_task ts)) c.edition && no_history_sound (length (map view_task ts)) c.no_history)))
          (((c.n ≤ most_tasks) × ((all blank_above ts ≡ true) × (all is_blank (drop c.n c.tasks) ≡ true)))
          × ((((length (map view_task ts) ≤ most_tasks) × (all (task_sound tb) (map view_task ts) ≡ true))
          × ((pairwise (roots_differ tb) (map view_task ts) ≡ true) × (main_sound tb (map view_task ts) c.main ≡ true)))
          × ((edition_sound (length (map view_task ts)) c.edition ≡ true) × (no_history_sound (length (map view_task ts)) c.no_history ≡ true))))
      d =
          and-decides (and-decides (leb-decides c.n most_tasks) (and-decides (self-decides _) (self-decides _)))
          (and-decides (and-decides (and-decides (leb-decides (length (map view_task ts)) most_tasks) (self-decides _))
          (and-decides (self-decides _) (self-decides _))) (and-decides (self-decides _) (self-decides _)))
