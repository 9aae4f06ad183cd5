-- Tasks read from a body one after the other: one more, or none where the next cannot be read or bytes are left over.
use Prim.Native.Nat.{ℕ, suc, ◌+◌, ◌-◌, ◌≤◌, ◌<◌}
use mathlib.Core.Path.{◌≡◌, refl, sym, ◌∙◌, ap, ap₂}
use mathlib.Core.Bool.{Bool, true, false, ◌&&◌}
use mathlib.Core.List.{List, [], ◌∷◌, ◌++◌, map, map-append}
use native.Mathlib.Numerals.{add-one}
use native.Mathlib.Omega.{arith}
use lib.Dec.{leb}
use lib.ListN.{length, get_or, set, drop, replicate, length-append, length-map, length-drop}
use lib.Seq.{drop-length, drop-cons, drop-drop}
use Rattle.std.specs.Prelude.{Some, None, if◌then◌else◌}
use Rattle.model.specs.Session.{Stack, most_tasks, most_height}
use Rattle.model.specs.Image.{Reading, unreadable, read_as, read_more, read_tasks}
use Rattle.model.proofs.Logic.{and-decides, leb-decides}
use Rattle.session.specs.declared.Task.{Task}
use Rattle.session.specs.Stored.{blank_task, hold_task, hold, pad}
use Rattle.session.proofs.Padding.{pad-push}
use Rattle.image.specs.Readings.{task_in, contents_of}

-- ---- one task

-- a task of height h can stand in so many bytes behind its header
abbrev pub height_fits : ℕ → ℕ → Bool
height_fits h left = leb 1 h && (leb h most_height && leb h left)

pub height-fits : (h left : ℕ) → height_fits h left ≡ true → (1 ≤ h) × ((h ≤ most_height) × (h ≤ left))
height-fits h left e = (and-decides (leb-decides 1 h) (and-decides (leb-decides h most_height) (leb-decides h left))).holds e

read-cut : (n : ℕ) (l : List ℕ) → length l < 2 → read_tasks (suc n) l ≡ unreadable
unfolding read_tasks
read-cut n [] h = refl
read-cut n (r ∷ []) h = refl
read-cut n (r ∷ x ∷ l) h = absurd (omega arith)

read_next : (n : ℕ) (body : List ℕ) (at : ℕ) → at + 2 ≤ length body → (h : ℕ) → get_or body (at + 1) 0 ≡ h
    → read_tasks (suc n) (drop at body)
    ≡ (if height_fits h (length body - at - 2) then read_more (task_in body at h) (read_tasks n (drop (at + (2 + h)) body)) else unreadable)
unfolding read_tasks
read_next n body at l h e =
    let k : length body - at - 2 ≡ length (drop (at + 2) body) = omega (arith, length-drop (at + 2) body) in
    let s : suc (at + 1) ≡ at + 2 = omega arith in
    let d : drop at body ≡ get_or body at 0 ∷ h ∷ drop (at + 2) body =
    drop-cons body at 0 (omega arith)
    ∙ ap (λ (xs : List ℕ). get_or body at 0 ∷ xs)
    (rw (← (add-one at)) (drop-cons body (at + 1) 0 (omega arith)) ∙ ap₂ (λ (x j : ℕ). x ∷ drop j body) e s) in
    let j : at + 2 + h ≡ at + (2 + h) = omega arith in
    rw (d, k, drop-drop h (at + 2) body, j)

-- ---- the tasks so far

-- the tasks ts in front of those that are read
abbrev read_onto : List (Stack ℕ) → Reading → Reading
read_onto [] q = q
read_onto (t ∷ ts) q = read_more t (read_onto ts q)

onto-more : (ts : List (Stack ℕ)) (t : Stack ℕ) (q : Reading) → read_onto ts (read_more t q) ≡ read_onto (ts ++ (t ∷ [])) q
onto-more [] t q = refl
onto-more (u ∷ ts) t q = ap (read_more u) (onto-more ts t q)

onto-unreadable : (ts : List (Stack ℕ)) → read_onto ts unreadable ≡ unreadable
onto-unreadable [] = refl
onto-unreadable (t ∷ ts) = ap (read_more t) (onto-unreadable ts)

onto-end : (ts : List (Stack ℕ)) → read_onto ts (read_as []) ≡ read_as ts
onto-end [] = refl
onto-end (t ∷ ts) = ap (read_more t) (onto-end ts)

-- i of the n tasks of a body were read from its first `at` bytes, and are stored
pub record Begun (body : List ℕ) (n i at : ℕ) (stored : List Task) : Type 0 where
  pub tasks : List (Stack ℕ)
  pub many : length tasks ≡ i
  pub rest : read_tasks n body ≡ read_onto tasks (read_tasks (n - i) (drop at body))
  pub kept : stored ≡ pad most_tasks blank_task (map hold_task tasks)

pub begun-none : (body : List ℕ) (n : ℕ) → Begun body n 0 0 (replicate most_tasks blank_task)
unfolding pad
begun-none body n =
    let e : n ≡ n - 0 = omega arith in
    record { tasks = []; many = refl; rest = ap (λ (k : ℕ). read_tasks k body) e; kept = refl }

module _ {body : List ℕ} {n i at : ℕ} {stored : List Task} (b : Begun body n i at stored) where
  -- where the next task cannot be read, none can
  stops : read_tasks (n - i) (drop at body) ≡ unreadable → (m v x : ℕ) → None ≡ contents_of (read_tasks n body) m v x
  stops e m v x = rw (b.rest, e, onto-unreadable b.tasks)

  module _ (l : i < n) where
    left : n - i ≡ suc (n - (i + 1))
    left = omega arith

    pub begun-cut : length body - at < 2 → (m v x : ℕ) → None ≡ contents_of (read_tasks n body) m v x
    begun-cut short = stops (ap (λ (k : ℕ). read_tasks k (drop at body)) left ∙ read-cut (n - (i + 1)) (drop at body) (omega (arith, length-drop at body)))

    module _ (whole : at + 2 ≤ length body) (h : ℕ) (e : get_or body (at + 1) 0 ≡ h) where
      next : read_tasks (n - i) (drop at body)
          ≡ (if height_fits h (length body - at - 2) then read_more (task_in body at h) (read_tasks (n - (i + 1)) (drop (at + (2 + h)) body)) else unreadable)
      next = ap (λ (k : ℕ). read_tasks k (drop at body)) left ∙ read_next (n - (i + 1)) body at whole h e

      pub begun-unfit : height_fits h (length body - at - 2) ≡ false → (m v x : ℕ) → None ≡ contents_of (read_tasks n body) m v x
      begun-unfit f = stops (rw f at next)

      pub begun_more : n ≤ most_tasks → height_fits h (length body - at - 2) ≡ true → (u : Task) → u ≡ hold_task (task_in body at (get_or body (at + 1) 0))
          → Begun body n (i + 1) (at + (2 + h)) (set stored i u)
      begun_more few f u r =
          let t = task_in body at h in
          let ts = b.tasks in
          record {
            tasks = ts ++ (t ∷ []);
            many = length-append ts (t ∷ []) ∙ ap (λ (k : ℕ). k + 1) b.many;
            rest = b.rest ∙ ap (read_onto ts) (rw f at next) ∙ onto-more ts t (read_tasks (n - (i + 1)) (drop (at + (2 + h)) body));
            kept =
                ap₂ (λ (us : List Task) (v : Task). set us i v) b.kept (r ∙ ap (λ (k : ℕ). hold_task (task_in body at k)) e)
                ∙ sym (ap (pad most_tasks blank_task) (map-append hold_task ts (t ∷ []))
                ∙ pad-push most_tasks blank_task i (hold_task t) (map hold_task ts) (length-map ts hold_task ∙ b.many) (omega arith));
          }

  module _ (all : n ≤ i) where
    ended : n - i ≡ 0
    ended = omega arith

    pub begun-over : at < length body → (m v x : ℕ) → None ≡ contents_of (read_tasks n body) m v x
    unfolding read_tasks
    begun-over l = stops (rw (ended, drop-cons body at 0 l))

    pub begun-end : at ≡ length body → i ≡ n → (m v x : ℕ)
        → Some (record { tasks = stored; n = n; main = m; edition = v; no_history = x }) ≡ contents_of (read_tasks n body) m v x
    unfolding read_tasks hold
    begun-end e k m v x =
        let r : read_tasks n body ≡ read_as b.tasks =
        b.rest ∙ ap (read_onto b.tasks) (rw (ended, e, drop-length body)) ∙ onto-end b.tasks in
        rw r (λ j. Some (record { tasks = b.kept j; n = sym (b.many ∙ k) j; main = m; edition = v; no_history = x }))
