-- Storing and viewing undo each other: what is held is seen again, and storage that is 0 beyond what stands in it is
-- what holds its view. Soundness of a stored session is soundness of its view and that storage.
use Prim.Native.Nat.{ℕ, zero, suc, ◌-◌, ◌≤◌, ◌<◌}
use mathlib.Core.Path.{◌≡◌, refl, sym, ◌∙◌, ap, ap₂}
use mathlib.Core.Bool.{Bool, true, ◌&&◌}
use mathlib.Core.List.{List, [], ◌∷◌, map, reverse, reverse-reverse}
use native.Mathlib.Omega.{arith}
use lib.ListN.{length, get_or, take, drop, replicate, length-map, length-take, length-reverse, get_or-map}
use lib.Seq.{length-take-le, get_or-take}
use lib.Dec.{leb, eqb}
use borrow.Author.Tests.{leb-true, eqb-true, le-leb}
use Rattle.model.specs.Lists.{all, All}
use Rattle.model.specs.Session.{Stack, State, stack, no_stack, count, height, fresh, most_tasks, most_height, sound}
use Rattle.model.proofs.Logic.{and_left, and_right, same_test, self-decides, All-at, All-map, All-of, all-decides, eqb-decides}
use Rattle.model.proofs.ListLaws.{All-take, All-drop, All-append, All-to-map}
use Rattle.model.proofs.Sound.{Sound, sound-decides}
use Rattle.session.specs.declared.Task.{Task}
use Rattle.session.specs.declared.Session.{Session}
use Rattle.session.specs.Stored.{blank_task, fresh_session, no_task, view_task, view, pad, hold_task, hold, blank_above, is_blank, storage_blank, sound_stored}
use Rattle.session.proofs.Setters.{with_tasks, with_count}
use Rattle.session.proofs.Known.{Screens32, Sized}
use Rattle.session.proofs.Padding.{pad-length, take-pad, drop-pad, pad-take}

-- ---- lists of what is known of each element

module _ {A : Type 0} where
  -- from a statement and a test that hold of each
  all_then : (P Q : A → Type 0) (p : A → Bool) → ((x : A) → P x → p x ≡ true → Q x) → (xs : List A) → All P xs → all p xs ≡ true → All Q xs
  all_then P Q p f [] h e = tt
  all_then P Q p f (x ∷ xs) h e =
      (f x h.0 (and_left (p x) (all p xs) e), all_then P Q p f xs h.1 (and_right (p x) (all p xs) e))

  all_replicate : (p : A → Bool) (z : A) (k : ℕ) → p z ≡ true → all p (replicate k z) ≡ true
  all_replicate p z zero e = refl
  all_replicate p z (suc k) e = rw (e, all_replicate p z k e)

  All-replicate : (P : A → Type 0) (z : A) (k : ℕ) → P z → All P (replicate k z)
  All-replicate P z zero h = tt
  All-replicate P z (suc k) h = (h, All-replicate P z k h)

  -- a list of one value
  one_value : (z : A) (xs : List A) → All (λ x. z ≡ x) xs → xs ≡ replicate (length xs) z
  one_value z [] h = refl
  one_value z (x ∷ xs) h = ap₂ ◌∷◌ (sym h.0) (one_value z xs h.1)

  map-undone : {B : Type 0} (f : A → B) (g : B → A) (xs : List A) → All (λ x. g (f x) ≡ x) xs → map g (map f xs) ≡ xs
  map-undone f g [] h = refl
  map-undone f g (x ∷ xs) h = ap₂ ◌∷◌ h.0 (map-undone f g xs h.1)

zeros : (l : List ℕ) → all (eqb 0) l ≡ true → l ≡ replicate (length l) 0
zeros l e = one_value 0 l ((all-decides (eqb-decides 0) l).holds e)

-- ---- what is held is seen again

pub view-hold_task : (t : Stack ℕ) → view_task (hold_task t) ≡ t
unfolding view_task hold_task
view-hold_task t =
    ap (λ (l : List ℕ). stack t.root (reverse l)) (take-pad most_height 0 (height t) (reverse t.screens) (length-reverse t.screens))
    ∙ ap (stack t.root) (reverse-reverse t.screens)

pub view-hold : (s : State ℕ) → view (hold s) ≡ s
unfolding view hold
view-hold s =
    rw (
      take-pad most_tasks blank_task (count s) (map hold_task s.tasks) (length-map s.tasks hold_task),
      map-undone hold_task view_task s.tasks (All-of view-hold_task s.tasks),
    )

pub view-fresh : view fresh_session ≡ fresh
unfolding view
view-fresh = refl

pub fresh-held : hold fresh ≡ fresh_session
unfolding hold pad
fresh-held = refl

-- ---- what is seen is held again

pub hold-view_task : (t : Task) → Screens32 t → blank_above t ≡ true → hold_task (view_task t) ≡ t
unfolding hold_task view_task blank_above
hold-view_task t l e =
    let low = leb-true t.height most_height (and_left (leb t.height most_height) (all (eqb 0) (drop t.height t.screens)) e) in
    let rest = zeros (drop t.height t.screens) (and_right (leb t.height most_height) (all (eqb 0) (drop t.height t.screens)) e) in
    let h : length (reverse (take t.height t.screens)) ≡ t.height =
    length-reverse (take t.height t.screens) ∙ length-take-le t.height t.screens (omega arith) in
    let s : pad most_height 0 (reverse (reverse (take t.height t.screens))) ≡ t.screens =
    ap (pad most_height 0) (reverse-reverse (take t.height t.screens)) ∙ pad-take most_height 0 t.height t.screens l low rest in
    λ i. record { root = t.root; height = h i; screens = s i }

blank-is : (t : Task) → Screens32 t → is_blank t ≡ true → blank_task ≡ t
unfolding is_blank
blank-is t l e =
    let rest = and_right (eqb t.root 0) (eqb t.height 0 && all (eqb 0) t.screens) e in
    let r = eqb-true t.root 0 (and_left (eqb t.root 0) (eqb t.height 0 && all (eqb 0) t.screens) e) in
    let h = eqb-true t.height 0 (and_left (eqb t.height 0) (all (eqb 0) t.screens) rest) in
    let s : t.screens ≡ replicate most_height 0 =
    zeros t.screens (and_right (eqb t.height 0) (all (eqb 0) t.screens) rest) ∙ ap (λ (n : ℕ). replicate n 0) l in
    λ i. record { root = sym r i; height = sym h i; screens = sym s i }

-- what the test of storage says
module _ (c : Session) (e : storage_blank c ≡ true) where
  pub blank-few : c.n ≤ most_tasks
  unfolding storage_blank
  blank-few = leb-true c.n most_tasks (and_left (leb c.n most_tasks) (all blank_above (take c.n c.tasks) && all is_blank (drop c.n c.tasks)) e)

  blank-rest : (all blank_above (take c.n c.tasks) && all is_blank (drop c.n c.tasks)) ≡ true
  unfolding storage_blank
  blank-rest = and_right (leb c.n most_tasks) (all blank_above (take c.n c.tasks) && all is_blank (drop c.n c.tasks)) e

  module _ (z : Sized c) where
    tasks-held : All (λ t. hold_task (view_task t) ≡ t) (take c.n c.tasks)
    tasks-held =
        all_then Screens32 (λ t. hold_task (view_task t) ≡ t) blank_above hold-view_task (take c.n c.tasks)
        (All-take Screens32 c.n c.tasks z.each)
        (and_left (all blank_above (take c.n c.tasks)) (all is_blank (drop c.n c.tasks)) blank-rest)

    beyond-blank : All (λ t. blank_task ≡ t) (drop c.n c.tasks)
    beyond-blank =
        all_then Screens32 (λ t. blank_task ≡ t) is_blank blank-is (drop c.n c.tasks)
        (All-drop Screens32 c.n c.tasks z.each)
        (and_right (all blank_above (take c.n c.tasks)) (all is_blank (drop c.n c.tasks)) blank-rest)

-- only the storage is needed, not the rest of soundness
pub held : (c : Session) → Sized c → storage_blank c ≡ true → hold (view c) ≡ c
unfolding hold view
held c z e =
    let ts = take c.n c.tasks in
    let low = blank-few c e in
    let n : length (map view_task ts) ≡ c.n = length-map ts view_task ∙ length-take-le c.n c.tasks (omega (arith, z.tasks)) in
    let beyond = one_value blank_task (drop c.n c.tasks) (beyond-blank c e z) in
    let row = ap (pad most_tasks blank_task) (map-undone view_task hold_task ts (tasks-held c e z)) ∙ pad-take most_tasks blank_task c.n c.tasks z.tasks low beyond in
    λ i. with_count (with_tasks c (row i)) (n i)

-- ---- soundness

module _ (tb : List ℕ) where
  pub sound-blank : (c : Session) → sound_stored tb c ≡ true → storage_blank c ≡ true
  unfolding sound_stored
  sound-blank c e = and_left (storage_blank c) (sound tb (view c)) e

  pub sound-view : (c : Session) → sound_stored tb c ≡ true → Sound tb (view c)
  unfolding sound_stored
  sound-view c e = (sound-decides tb (view c)).holds (and_right (storage_blank c) (sound tb (view c)) e)

-- a state that the storage has room for
pub record Fits (v : State ℕ) : Type 0 where
  pub few : count v ≤ most_tasks
  pub low : All (λ t. height t ≤ most_height) v.tasks

pub sound-fits : (tb : List ℕ) (v : State ℕ) → Sound tb v → Fits v
sound-fits tb v h = record { few = h.few; low = All-map (λ t k. k.low) v.tasks h.each }

pub hold-screens : (t : Stack ℕ) → height t ≤ most_height → Screens32 (hold_task t)
unfolding hold_task
hold-screens t h = pad-length most_height 0 (reverse t.screens) (omega (arith, length-reverse t.screens))

held-blank : (ts : List (Stack ℕ)) → All (λ t. height t ≤ most_height) ts → all blank_above (map hold_task ts) ≡ true
unfolding blank_above hold_task
held-blank [] h = refl
held-blank (t ∷ ts) h =
    rw (
      le-leb (height t) most_height h.0,
      drop-pad most_height 0 (height t) (reverse t.screens) (length-reverse t.screens),
      all_replicate (eqb 0) 0 (most_height - height t) refl,
      held-blank ts h.1,
    )

blank-blank : is_blank blank_task ≡ true
unfolding is_blank
blank-blank = refl

pub hold-blank : (v : State ℕ) → Fits v → storage_blank (hold v) ≡ true
unfolding storage_blank hold
hold-blank v f =
    let e = length-map v.tasks hold_task in
    rw (
      le-leb (count v) most_tasks f.few,
      take-pad most_tasks blank_task (count v) (map hold_task v.tasks) e,
      drop-pad most_tasks blank_task (count v) (map hold_task v.tasks) e,
      held-blank v.tasks f.low,
    )
    (all_replicate is_blank blank_task (most_tasks - count v) blank-blank)

pub hold-sized : (v : State ℕ) → Fits v → Sized (hold v)
unfolding hold pad
hold-sized v f =
    let ts = map hold_task v.tasks in
    let l : length ts ≤ most_tasks = omega (arith, length-map v.tasks hold_task, f.few) in
    record {
      tasks = pad-length most_tasks blank_task ts l;
      each = All-append Screens32 ts (replicate (most_tasks - length ts) blank_task)
          (All-to-map hold_task Screens32 v.tasks (All-map hold-screens v.tasks f.low))
          (All-replicate Screens32 blank_task (most_tasks - length ts) refl);
    }

pub hold-sound : (tb : List ℕ) (v : State ℕ) → Sound tb v → sound_stored tb (hold v) ≡ true
unfolding sound_stored
hold-sound tb v h = rw (hold-blank v (sound-fits tb v h)) (ap (sound tb) (view-hold v) ∙ (sound-decides tb v).shows h)

-- what is held is sound exactly where the session is
pub held-sound : (tb : List ℕ) (v : State ℕ) → sound_stored tb (hold v) ≡ sound tb v
held-sound tb v =
    same_test
    (record {
      holds = λ e. (sound-decides tb v).shows (rw (view-hold v) at (sound-view tb (hold v) e));
      shows = λ e. hold-sound tb v ((sound-decides tb v).holds e);
    })
    (self-decides (sound tb v))

-- ---- the parts of a view

pub view-count : (c : Session) → Sized c → c.n ≤ most_tasks → count (view c) ≡ c.n
unfolding view
view-count c z few = length-map (take c.n c.tasks) view_task ∙ length-take-le c.n c.tasks (omega (arith, z.tasks))

pub view-main : (c : Session) → (view c).main ≡ c.main
unfolding view
view-main c = refl

pub view-edition : (c : Session) → (view c).edition ≡ c.edition
unfolding view
view-edition c = refl

pub view-at : (c : Session) (i : ℕ) → i < c.n → get_or (view c).tasks i no_stack ≡ view_task (get_or c.tasks i no_task)
unfolding view view_task
view-at c i h = get_or-map view_task (take c.n c.tasks) i no_task ∙ ap view_task (get_or-take c.n c.tasks i no_task h)

-- ---- a task that is stored

pub sized-at : (c : Session) → Sized c → (i : ℕ) → i < most_tasks → Screens32 (get_or c.tasks i no_task)
sized-at c z i h = All-at Screens32 c.tasks i no_task (omega (arith, z.tasks)) z.each

module _ (c : Session) (z : Sized c) (e : storage_blank c ≡ true) (i : ℕ) (h : i < c.n) where
  pub stored_at : hold_task (get_or (view c).tasks i no_stack) ≡ get_or c.tasks i no_task
  stored_at =
      let few = blank-few c e in
      let l : length (take c.n c.tasks) ≡ c.n = length-take-le c.n c.tasks (omega (arith, z.tasks)) in
      let k = All-at (λ t. hold_task (view_task t) ≡ t) (take c.n c.tasks) i no_task (omega arith) (tasks-held c e z) in
      ap hold_task (view-at c i h) ∙ (rw (get_or-take c.n c.tasks i no_task h) at k)

  pub stored-height : (get_or c.tasks i no_task).height ≤ most_height
  unfolding hold_task view_task
  stored-height =
      let few = blank-few c e in
      let t = get_or c.tasks i no_task in
      let l : length t.screens ≡ most_height = sized-at c z i (omega arith) in
      let k : length (reverse (take t.height t.screens)) ≡ t.height =
      ap (λ (s : Task). s.height) (sym (ap hold_task (view-at c i h)) ∙ stored_at) in
      omega (arith, length-reverse (take t.height t.screens), length-take t.height t.screens)
