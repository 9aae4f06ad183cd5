-- The 16 places, four at a time. Each root read is that of its place, or the number that no screen has where the place is
-- not sound; where four places hold no task, they are blank and their roots stay 0.
use Prim.Native.Nat.{ℕ, zero, suc, ◌+◌, ◌-◌, ◌≤◌, ◌<◌, zero-le, suc-le-suc}
use mathlib.Core.Path.{◌≡◌, refl, sym, ◌∙◌, ap, subst}
use mathlib.Core.Bool.{Bool, true, false}
use mathlib.Core.List.{List, [], ◌∷◌}
use native.Mathlib.Omega.{arith}
use lib.Dec.{ltb}
use lib.ListN.{length, get_or, set, take, drop, replicate, length-set, length-drop, length-map, length-replicate, get_or-map}
use lib.Seq.{get_or-set_same, get_or-set_other, set-get_or, get_or-take, get_or-drop, length-take-le, ext_get_or}
use borrow.Author.Tests.{ltb-true, ltb-false, lt-ltb, le-ltb, ne_eqb}
use Rattle.std.specs.Prelude.{if◌then◌else◌}
use Rattle.model.specs.Lists.{all, All}
use Rattle.model.specs.Table.{table_refusal}
use Rattle.model.specs.Session.{most_tasks, edition_sound, no_history_sound}
use Rattle.model.proofs.Logic.{refuted, contradiction, and_left, and_right, All-at}
use Rattle.model.proofs.Tables.{good-shaped}
use Rattle.model.proofs.Walks.{all-at, all-take-at}
use Rattle.session.specs.declared.Task.{Task}
use Rattle.session.specs.declared.Session.{Session}
use Rattle.session.specs.Stored.{no_task, root, roots_of, is_blank, sound_stored}
use Rattle.places.specs.PlaceTests.{no_root, is_root, expected_sum, place_root}
use Rattle.soundness.specs.Tests.{roots_known}
use Rattle.soundness.proofs.Bytes.{SumFits}
use Rattle.soundness.proofs.Fits.{stored_task_sound, SessionFits, used-stored, blank-stored, blank-root-0, root-known, roots-known, session-fits}

-- ---- one place

-- what a place holds where it is sound
abbrev place_sound : List ℕ → Bool → Task → Bool
place_sound tb used t = if used then stored_task_sound tb t else is_blank t

module _ (tb : List ℕ) (good : table_refusal tb ≡ 0) (t : Task) (fits : SumFits t) where
  low-root : t.root < no_root → is_root t.root ≡ true
  unfolding is_root
  low-root h = rw (ne_eqb t.root no_root (λ e. omega arith))

  -- the root read is a root exactly where the place is sound
  pub read-root : (used : Bool) → is_root (place_root tb used t) ≡ place_sound tb used t
  unfolding place_root expected_sum is_root
  read-root true = rw (used-stored tb t fits) (go (stored_task_sound tb t) refl)
    where
      go : (b : Bool) → stored_task_sound tb t ≡ b → is_root (if b then t.root else no_root) ≡ b
      go true e = let k = root-known tb t e in let g = good-shaped tb good in low-root (omega (arith, g.most))
      go false e = refl
  read-root false = rw (blank-stored t fits) (go (is_blank t) refl)
    where
      go : (b : Bool) → is_blank t ≡ b → is_root (if b then t.root else no_root) ≡ b
      go true e = low-root (omega (arith, blank-root-0 t e))
      go false e = refl

  pub sound-root : (used : Bool) → place_sound tb used t ≡ true → place_root tb used t ≡ t.root
  unfolding place_root expected_sum
  sound-root true e = rw (used-stored tb t fits, e)
  sound-root false e = rw (blank-stored t fits, e)

-- ---- what is known before the place i

pub record Before (tb : List ℕ) (s : Session) (roots : List ℕ) (i : ℕ) : Type 0 where
  pub good : table_refusal tb ≡ 0
  pub few : s.n ≤ most_tasks
  pub sized : length s.tasks ≡ most_tasks
  pub sums : All SumFits s.tasks
  pub long : length roots ≡ most_tasks
  pub read : (j : ℕ) → j < i → get_or roots j 0 ≡ place_root tb (ltb j s.n) (get_or s.tasks j no_task)
  pub blank : (j : ℕ) → i ≤ j → get_or roots j 0 ≡ 0

zeros : (n j : ℕ) → get_or {A = ℕ} (replicate n 0) j 0 ≡ 0
zeros zero j = refl
zeros (suc n) zero = refl
zeros (suc n) (suc j) = zeros n j

pub before-first : (tb : List ℕ) (s : Session) → table_refusal tb ≡ 0 → s.n ≤ most_tasks → length s.tasks ≡ most_tasks
    → All SumFits s.tasks → Before tb s (replicate most_tasks 0) 0
before-first tb s good few sized sums =
    record {
      good = good;
      few = few;
      sized = sized;
      sums = sums;
      long = length-replicate {A = ℕ} most_tasks 0;
      read = λ j h. absurd (omega arith);
      blank = λ j h. zeros most_tasks j;
    }

-- a test holds of a list where it holds at each place
pub all_from : {A : Type 0} (p : A → Bool) (d : A) (l : List A) → ((j : ℕ) → j < length l → p (get_or l j d) ≡ true) → all p l ≡ true
all_from p d [] h = refl
all_from p d (x ∷ xs) h = rw (h 0 (suc-le-suc zero-le)) (all_from p d xs (λ j l. h (suc j) (suc-le-suc l)))

-- the task at a place, and the root read there
abbrev task : Session → ℕ → Task
task s i = get_or s.tasks i no_task

abbrev root_at : List ℕ → Session → ℕ → ℕ
root_at tb s i = place_root tb (ltb i s.n) (task s i)

-- the four places from i on are blank
abbrev pub blanks : Session → ℕ → Bool
blanks s i = all is_blank (task s i ∷ task s (i + 1) ∷ task s (i + 2) ∷ task s (i + 3) ∷ [])

module _ {tb : List ℕ} {s : Session} where
  module _ {roots : List ℕ} {i : ℕ} (b : Before tb s roots i) where
    fits-at : (j : ℕ) → j < most_tasks → SumFits (task s j)
    fits-at j h = All-at SumFits s.tasks j no_task (omega (arith, b.sized)) b.sums

    -- ---- one place more

    after_one : i < most_tasks → Before tb s (set roots i (root_at tb s i)) (i + 1)
    after_one h =
        record {
          good = b.good;
          few = b.few;
          sized = b.sized;
          sums = b.sums;
          long = length-set roots i (root_at tb s i) ∙ b.long;
          read = λ j l. go j l (ltb j i) refl;
          blank = λ j l. get_or-set_other roots i j (root_at tb s i) 0 (λ e. omega arith) ∙ b.blank j (omega arith);
        }
      where
        go : (j : ℕ) → j < i + 1 → (e : Bool) → ltb j i ≡ e → get_or (set roots i (root_at tb s i)) j 0 ≡ root_at tb s j
        go j l true e =
            let k = ltb-true j i e in
            get_or-set_other roots i j (root_at tb s i) 0 (λ q. omega arith) ∙ b.read j k
        go j l false e =
            let k = ltb-false j i e in
            let q : j ≡ i = omega arith in
            rw q (get_or-set_same roots i (root_at tb s i) 0 (omega (arith, b.long)))

    -- a blank place in which no task stands has the root 0, which stands there
    blank-here : (j : ℕ) → i ≤ j → s.n ≤ i → j < most_tasks → is_blank (task s j) ≡ true → set roots j (root_at tb s j) ≡ roots
    blank-here j l h m e =
        let z : root_at tb s j ≡ 0 =
        rw (le-ltb j s.n (omega arith)) (sound-root tb b.good (task s j) (fits-at j m) false e ∙ blank-root-0 (task s j) e) in
        ap (set roots j) (z ∙ sym (b.blank j l)) ∙ set-get_or roots j 0

  -- ---- four places more

  at_place : {roots : List ℕ} {i : ℕ} (k : ℕ) → i ≡ k → Before tb s roots i → Before tb s roots k
  at_place {roots} k e b = subst (Before tb s roots) e b

  pub after-four : {roots : List ℕ} {i : ℕ} → Before tb s roots i → i + 4 ≤ most_tasks → {r : List ℕ}
      → r ≡ set (set (set (set roots i (root_at tb s i)) (i + 1) (root_at tb s (i + 1))) (i + 2) (root_at tb s (i + 2))) (i + 3) (root_at tb s (i + 3))
      → Before tb s r (i + 4)
  after-four {i = i} b h e =
      let b₂ = at_place (i + 2) (omega arith) (after_one (after_one b (omega arith)) (omega arith)) in
      let b₃ = at_place (i + 3) (omega arith) (after_one b₂ (omega arith)) in
      rw e (at_place (i + 4) (omega arith) (after_one b₃ (omega arith)))

  pub after-blanks : {roots : List ℕ} {i : ℕ} → Before tb s roots i → s.n ≤ i → i + 4 ≤ most_tasks → blanks s i ≡ true → {r : List ℕ} → r ≡ roots
      → Before tb s r (i + 4)
  after-blanks {i = i} b h l e f =
      let e₁ = and_right (is_blank (task s i)) _ e in
      let e₂ = and_right (is_blank (task s (i + 1))) _ e₁ in
      let e₃ = and_right (is_blank (task s (i + 2))) _ e₂ in
      after-four b l
      (rw (
        f,
        blank-here b i (omega arith) h (omega arith) (and_left (is_blank (task s i)) _ e),
        blank-here b (i + 1) (omega arith) h (omega arith) (and_left (is_blank (task s (i + 1))) _ e₁),
        blank-here b (i + 2) (omega arith) h (omega arith) (and_left (is_blank (task s (i + 2))) _ e₂),
        blank-here b (i + 3) (omega arith) h (omega arith) (and_left (is_blank (task s (i + 3))) _ e₃),
      ))

  -- ---- a place beyond the tasks of a sound session

  blank-at : length s.tasks ≡ most_tasks → SessionFits tb s → (j : ℕ) → s.n ≤ j → j < most_tasks → is_blank (task s j) ≡ true
  blank-at z k j h l =
      let q : s.n + (j - s.n) ≡ j = omega arith in
      let e = all-at is_blank (drop s.n s.tasks) (j - s.n) no_task (omega (arith, length-drop s.n s.tasks)) k.rest in
      rw q at (sym (ap is_blank (get_or-drop s.n s.tasks (j - s.n) no_task)) ∙ e)

  pub blanks-fail : {roots : List ℕ} {i : ℕ} (b : Before tb s roots i) → s.n ≤ i → i + 4 ≤ most_tasks → blanks s i ≡ false → sound_stored tb s ≡ false
  blanks-fail {roots} {i} b h l e =
      refuted _ (session-fits tb s) (λ k.
      let at = blank-at b.sized k in
      contradiction
      (rw (at i h (omega arith), at (i + 1) (omega arith) (omega arith), at (i + 2) (omega arith) (omega arith), at (i + 3) (omega arith) (omega arith)))
      e)

  -- ---- after the last place

  module _ {roots : List ℕ} (b : Before tb s roots 16) where
    taken : length (take s.n s.tasks) ≡ s.n
    taken = length-take-le s.n s.tasks (omega (arith, b.few, b.sized))

    pub edition-read : edition_sound (length (take s.n s.tasks)) s.edition ≡ edition_sound s.n s.edition
    edition-read = rw taken

    pub no-history-read : no_history_sound (length (take s.n s.tasks)) s.no_history ≡ no_history_sound s.n s.no_history
    no-history-read = rw taken

    root-read : (j : ℕ) → j < most_tasks → is_root (get_or roots j 0) ≡ place_sound tb (ltb j s.n) (task s j)
    root-read j h = ap is_root (b.read j h) ∙ read-root tb b.good (task s j) (fits-at b j h) (ltb j s.n)

    pub roots-fail : all is_root roots ≡ false → sound_stored tb s ≡ false
    roots-fail e =
        refuted _ (session-fits tb s) (λ k. contradiction (all_from is_root 0 roots (λ j h. go k j (omega (arith, b.long)) (ltb j s.n) refl)) e)
      where
        go : SessionFits tb s → (j : ℕ) → j < most_tasks → (u : Bool) → ltb j s.n ≡ u → is_root (get_or roots j 0) ≡ true
        go k j h true u =
            root-read j h ∙ rw u
            (all-take-at (stored_task_sound tb) s.tasks s.n (omega (arith, b.few, b.sized)) j no_task (ltb-true j s.n u) k.each)
        go k j h false u = root-read j h ∙ rw u (blank-at b.sized k j (ltb-false j s.n u) h)

    module _ (e : all is_root roots ≡ true) where
      place-sound : (j : ℕ) → j < most_tasks → place_sound tb (ltb j s.n) (task s j) ≡ true
      place-sound j h = sym (root-read j h) ∙ all-at is_root roots j 0 (omega (arith, b.long)) e

      pub each-sound : all (stored_task_sound tb) (take s.n s.tasks) ≡ true
      each-sound =
          all_from (stored_task_sound tb) no_task (take s.n s.tasks) (λ j h.
          let l : j < s.n = omega (arith, taken) in
          let p = place-sound j (omega (arith, b.few)) in
          ap (stored_task_sound tb) (get_or-take s.n s.tasks j no_task l) ∙ (rw (lt-ltb j s.n l) at p))

      pub rest-blank : all is_blank (drop s.n s.tasks) ≡ true
      rest-blank =
          all_from is_blank no_task (drop s.n s.tasks) (λ j h.
          let p = place-sound (s.n + j) (omega (arith, length-drop s.n s.tasks, b.sized)) in
          ap is_blank (get_or-drop s.n s.tasks j no_task) ∙ (rw (le-ltb (s.n + j) s.n (omega arith)) at p))

      pub roots-read : take s.n roots ≡ roots_of (take s.n s.tasks)
      roots-read =
          let n = length-take-le s.n roots (omega (arith, b.few, b.long)) in
          ext_get_or 0 (take s.n roots) (roots_of (take s.n s.tasks)) (n ∙ sym (length-map (take s.n s.tasks) root ∙ taken)) (λ j h.
          let l : j < s.n = omega arith in
          let m : j < most_tasks = omega (arith, b.few) in
          get_or-take s.n roots j 0 l ∙ b.read j m
          ∙ sound-root tb b.good (task s j) (fits-at b j m) (ltb j s.n) (place-sound j m)
          ∙ sym (get_or-map root (take s.n s.tasks) j no_task ∙ ap root (get_or-take s.n s.tasks j no_task l)))

      pub read_known : roots_known tb (take s.n roots) ≡ true
      read_known = rw roots-read (roots-known tb (take s.n s.tasks) each-sound)
