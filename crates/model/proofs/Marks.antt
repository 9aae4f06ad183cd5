-- The mark of a finishing start, followed as a position. `finished` runs the start on screens that carry a mark and
-- closes the marked one; here that is shown to be the plain start, and then closing the screen at a position that is
-- read off the effect: `finished-carry`. Code follows the position.
use Prim.Native.Nat.{ℕ, zero, suc, ◌≤◌, pred}
use mathlib.Core.Path.{◌≡◌, refl, ◌∙◌, ap, ap₂}
use mathlib.Core.Bool.{Bool, true, false, false≢true}
use mathlib.Core.List.{List, [], ◌∷◌, map}
use native.Mathlib.Nat.{not-suc-le-zero}
use native.Mathlib.Omega.{arith}
use lib.Dec.{eqb}
use lib.ListN.{length, set, drop, length-map, get_or-map}
use borrow.Author.Tests.{lt-leb}
use Rattle.model.specs.declared.Change.{Change}
use Rattle.model.specs.declared.Effect.{Effect}
use Rattle.model.specs.declared.Position.{Position}
use Rattle.std.specs.Prelude.{if◌then◌else◌, Option, None, Some}
use Rattle.model.specs.Lists.{is_empty, is_place, further, find, omit, put_second, to_front, All}
use Rattle.model.specs.Session.{Stack, State, stack, no_stack, on_screens, on_tasks, set_no_history, task_at, front, count}
use Rattle.model.specs.Search.{holds}
use Rattle.model.specs.Effects.{move, changed, change_front, put_new, carry_out, without_task, task_left, close}
use Rattle.model.specs.Calls.{Marked, unmarked, map_screens, map_state, mark_front, place_of_mark, close_marked, closed_marked}
use Rattle.model.specs.Marks.{mark_in, mark_after, closed_at, stands_at}
use Rattle.model.proofs.Logic.{All-of}
use Rattle.model.proofs.Sessions.{with_tasks}
use Rattle.model.proofs.ListLaws.{to_front-length, All-drop, All-toFront, All-to-map, map-omit, map-set, map-to_front, map-drop, map-on_first, find-map, is_empty-map}

-- the screen at a mark's position closes
abbrev pub close_at : {A : Type 0} → Option Position → State A → State A
close_at None s = s
close_at (Some p) s = close (suc p.behind) p.below s

-- ---- effects and closing do not look at marks

module _ {A B : Type 0} (f : A → B) where
  map-close : (p i : ℕ) (s : State A) → map_state f (close p i s) ≡ close p i (map_state f s)
  unfolding map_state close
  map-close p i s =
      let t = task_at s.tasks p in
      rw (get_or-map (map_screens f) s.tasks (pred p) no_stack, ← (map-omit f i t.screens), is_empty-map f (omit i t.screens))
      (go (is_empty (omit i t.screens)))
    where
      go : (b : Bool) → map_state f (if b then without_task p (set_no_history 0 s) else on_tasks (λ ts. set ts (pred p) (task_left p i s)) (set_no_history 0 s))
          ≡ (if b then without_task p (set_no_history 0 (map_state f s))
          else on_tasks (λ ts. set ts (pred p) (map_screens f (task_left p i s))) (set_no_history 0 (map_state f s)))
      go true = rw (← (map-omit (map_screens f) (pred p) s.tasks), length-map (omit (pred p) s.tasks) (map_screens f))
      go false = rw (map-set (map_screens f) (pred p) (task_left p i s) s.tasks)

  map-close-at : (k : Option Position) (s : State A) → map_state f (close_at k s) ≡ close_at k (map_state f s)
  map-close-at None s = refl
  map-close-at (Some p) s = map-close (suc p.behind) p.below s

  module _ (is_b : B → Bool) (b : ℕ) (x : A) where
    map-changed : (c : Change) (xs : List A) → map f (changed (λ y. is_b (f y)) x c xs) ≡ changed is_b (f x) c (map f xs)
    unfolding changed
    map-changed Change.Keep xs = refl
    map-changed Change.Renew xs = refl
    map-changed Change.Clear xs = rw (find-map f is_b xs) (map-drop f (pred (find (λ y. is_b (f y)) xs)) xs)
    map-changed Change.Lift xs = rw (find-map f is_b xs) (map-to_front f (pred (find (λ y. is_b (f y)) xs)) xs)
    map-changed Change.Push xs = refl

    map-change-front : (c : Change) (s : State A)
        → map_state f (change_front (changed (λ y. is_b (f y)) x c) s) ≡ change_front (changed is_b (f x) c) (map_state f s)
    unfolding map_state change_front
    map-change-front c s =
        ap (with_tasks (map_state f s))
        (map-on_first (map_screens f) (on_screens (changed (λ y. is_b (f y)) x c)) (on_screens (changed is_b (f x) c))
        (λ t. ap (stack t.root) (map-changed c t.screens)) s.tasks)

    map-move : (p : ℕ) (s : State A) → map_state f (move p s) ≡ move p (map_state f s)
    unfolding map_state move
    map-move p s = rw (map-to_front (map_screens f) (pred p) s.tasks)

    map-carry : (d : Effect) (p : ℕ) (s : State A) → map_state f (carry_out (λ y. is_b (f y)) b x d p s) ≡ carry_out is_b b (f x) d p (map_state f s)
    unfolding carry_out map_state put_new
    map-carry Effect.New p s = refl
    map-carry (Effect.InFront c) p s = map-change-front c s
    map-carry (Effect.MoveAnd c) p s = map-change-front c (move p s) ∙ ap (change_front (changed is_b (f x) c)) (map-move p s)

-- ---- where the mark is found

pub find-all-false : {A : Type 0} (q : A → Bool) (xs : List A) → All (λ x. q x ≡ false) xs → find q xs ≡ 0
find-all-false q [] h = refl
find-all-false q (x ∷ xs) h = rw (h.0, find-all-false q xs h.1)

abbrev is_marked : Marked → Bool
is_marked y = y.mark

abbrev Unmarked : List Marked → Type 0
Unmarked ys = All (λ y. is_marked y ≡ false) ys

unmarked-all : (xs : List ℕ) → Unmarked (map unmarked xs)
unmarked-all xs = All-to-map unmarked (λ y. is_marked y ≡ false) xs (All-of (λ x. refl) xs)

-- no task of the list holds the mark
abbrev Unheld : List (Stack Marked) → Type 0
Unheld ts = All (λ t. Unmarked t.screens) ts

unheld-all : (ts : List (Stack ℕ)) → Unheld (map (map_screens unmarked) ts)
unheld-all ts = All-to-map (map_screens unmarked) (λ t. Unmarked t.screens) ts (All-of (λ t. unmarked-all t.screens) ts)

unheld-none : (ts : List (Stack Marked)) → Unheld ts → find (λ t. is_place (place_of_mark t)) ts ≡ 0
unheld-none [] h = refl
unheld-none (t ∷ ts) h = rw (find-all-false is_marked t.screens h.0, unheld-none ts h.1)

-- the marked screen stands at the position, or is gone: closing it closes what stands there, and so many screens
record MarkedAt (s : State Marked) (k : Option Position) : Type 0 where
  closes : close_marked s ≡ close_at k s
  counts : closed_marked s ≡ closed_at k

module _ (s : State Marked) (r : ℕ) (ys : List Marked) (us : List (Stack Marked)) where
  -- the mark is in the front task
  marked-first : (i : ℕ) → find is_marked ys ≡ suc i → MarkedAt (with_tasks s (stack r ys ∷ us)) (stands_at 0 i)
  unfolding close_marked
  marked-first i e = record { closes = rw (e, e); counts = rw e }

  -- it is nowhere
  marked-none : Unmarked ys → Unheld us → MarkedAt (with_tasks s (stack r ys ∷ us)) None
  unfolding close_marked
  marked-none h k =
      let e = find-all-false is_marked ys h in
      let f = unheld-none us k in
      record { closes = rw (e, f); counts = rw (e, f) }

-- it is on top of the second task
marked-second : (s : State Marked) (t u : Stack Marked) (y : Marked) (ys : List Marked) (us : List (Stack Marked))
    → Unmarked t.screens → u.screens ≡ y ∷ ys → is_marked y ≡ true
    → MarkedAt (with_tasks s (t ∷ u ∷ us)) (stands_at 1 0)
unfolding close_marked
marked-second s t u y ys us h e g =
    let f = find-all-false is_marked t.screens h in
    record { closes = rw (f, e, g); counts = rw (f, e, g) }

-- ---- the start carried out on marked screens

-- what the change of the marked screen's own task needs: B stands there, where it is cleared to or lifted
abbrev pub AbleIn : Change → ℕ → List ℕ → Type 0
AbleIn Change.Keep b xs = Unit {0}
AbleIn Change.Renew b xs = Unit {0}
AbleIn Change.Clear b xs = holds b xs ≡ true
AbleIn Change.Lift b xs = holds b xs ≡ true
AbleIn Change.Push b xs = Unit {0}

-- what an effect needs
abbrev pub Able : Effect → ℕ → ℕ → State ℕ → Type 0
Able Effect.New p b s = Unit {0}
Able (Effect.InFront c) p b s = AbleIn c b (front s).screens
Able (Effect.MoveAnd c) p b s = (p ≤ count s) × (p ≤ 1 → AbleIn c b (front s).screens)

-- a session whose front screen is x
module _ (s : State ℕ) (b r x : ℕ) (xs : List ℕ) (ts : List (Stack ℕ)) where
  abbrev before : State ℕ
  before = with_tasks s (stack r (x ∷ xs) ∷ ts)

  abbrev is_bmarked : Marked → Bool
  is_bmarked y = eqb b y.screen

  abbrev marked_x : Marked
  marked_x = record { screen = x; mark = true }

  abbrev below : List Marked
  below = map unmarked xs

  abbrev others : List (Stack Marked)
  others = map (map_screens unmarked) ts

  -- a change keeps unmarked screens unmarked
  changed-unmarked : (c : Change) (ys : List Marked) → Unmarked ys → Unmarked (changed is_bmarked (unmarked b) c ys)
  unfolding changed
  changed-unmarked Change.Keep ys h = h
  changed-unmarked Change.Renew ys h = (refl, tt)
  changed-unmarked Change.Clear ys h = All-drop (λ y. is_marked y ≡ false) (pred (find is_bmarked ys)) ys h
  changed-unmarked Change.Lift ys h = All-toFront (λ y. is_marked y ≡ false) (pred (find is_bmarked ys)) ys h
  changed-unmarked Change.Push ys h = (refl, h)

  -- B is another screen, and stands below
  stands-below : eqb b x ≡ false → holds b (x ∷ xs) ≡ true → is_place (find is_bmarked below) ≡ true
  unfolding holds
  stands-below e h = go (find (eqb b) xs) (find-map unmarked is_bmarked xs) (rw e at h)
    where
      go : (n : ℕ) → find is_bmarked below ≡ n → is_place (further n) ≡ true → is_place (find is_bmarked below) ≡ true
      go zero f g = absurd (false≢true g)
      go (suc n) f g = rw f

  second-marked : (ys : List Marked) → 1 ≤ length ys → Unmarked ys → find is_marked (put_second marked_x ys) ≡ 2
  second-marked [] l h = absurd (not-suc-le-zero l)
  second-marked (y ∷ ys) l h = rw h.0

  -- the mark after a change of the front task
  front-mark : (o : State Marked) (c : Change) (same : Bool) → eqb b x ≡ same → AbleIn c b (x ∷ xs)
      → MarkedAt (with_tasks o (stack r (changed is_bmarked (unmarked b) c (marked_x ∷ below)) ∷ others)) (mark_in c same)
  unfolding changed
  front-mark o Change.Keep same e h = marked-first o r (marked_x ∷ below) others 0 refl
  front-mark o Change.Renew same e h = marked-none o r (unmarked b ∷ []) others (refl, tt) (unheld-all ts)
  front-mark o Change.Clear true e h = rw e (marked-first o r (marked_x ∷ below) others 0 refl)
  front-mark o Change.Clear false e h = rw e (go (find is_bmarked below) (stands-below e h))
    where
      go : (n : ℕ) → is_place n ≡ true
          → MarkedAt (with_tasks o (stack r (drop (pred (further n)) (marked_x ∷ below)) ∷ others)) None
      go zero g = absurd (false≢true g)
      go (suc n) g = marked-none o r (drop n below) others (All-drop (λ y. is_marked y ≡ false) n below (unmarked-all xs)) (unheld-all ts)
  front-mark o Change.Lift true e h = rw e (marked-first o r (marked_x ∷ below) others 0 refl)
  front-mark o Change.Lift false e h = rw e (go (find is_bmarked below) refl (stands-below e h))
    where
      some : (ys : List Marked) → is_place (find is_bmarked ys) ≡ true → 1 ≤ length ys
      some [] g = absurd (false≢true g)
      some (y ∷ ys) g = omega arith

      go : (n : ℕ) → find is_bmarked below ≡ n → is_place (find is_bmarked below) ≡ true
          → MarkedAt (with_tasks o (stack r (to_front (pred (further n)) (marked_x ∷ below)) ∷ others)) (stands_at 0 1)
      go zero f g = absurd (false≢true (rw f at g))
      go (suc n) f g =
          marked-first o r (put_second marked_x (to_front n below)) others 1
          (second-marked (to_front n below) (omega (arith, to_front-length n below, some below g))
          (All-toFront (λ y. is_marked y ≡ false) n below (unmarked-all xs)))
  front-mark o Change.Push same e h = marked-first o r (unmarked b ∷ marked_x ∷ below) others 1 refl

  -- a task comes before the marked one
  moved-mark : (o : State Marked) (c : Change) (us : List (Stack Marked)) → 1 ≤ length us → Unheld us
      → MarkedAt (change_front (changed is_bmarked (unmarked b) c) (with_tasks o (put_second (stack r (marked_x ∷ below)) us))) (stands_at 1 0)
  unfolding change_front
  moved-mark o c [] l h = absurd (not-suc-le-zero l)
  moved-mark o c (u ∷ us) l h =
      marked-second o _ (stack r (marked_x ∷ below)) marked_x below us (changed-unmarked c u.screens h.0) refl refl

  carry-mark : (d : Effect) (p : ℕ) (same : Bool) → eqb b x ≡ same → Able d p b before
      → MarkedAt (carry_out is_bmarked b (unmarked b) d p (mark_front before)) (mark_after d p same)
  unfolding carry_out mark_front map_state put_new change_front move
  carry-mark Effect.New p same e h = marked-second (put_new b (unmarked b) (map_state unmarked s)) (stack b (unmarked b ∷ [])) (stack r (marked_x ∷ below)) marked_x below others (refl, tt) refl refl
  carry-mark (Effect.InFront c) p same e h = front-mark (map_state unmarked s) c same e h
  carry-mark (Effect.MoveAnd c) zero same e h = front-mark (move 0 (map_state unmarked s)) c same e (h.1 (omega arith))
  carry-mark (Effect.MoveAnd c) (suc zero) same e h = front-mark (move 1 (map_state unmarked s)) c same e (h.1 (omega arith))
  carry-mark (Effect.MoveAnd c) (suc (suc k)) same e h =
      rw (lt-leb (suc (suc k)) 1 (omega arith))
      (moved-mark (move (suc (suc k)) (map_state unmarked s)) c (to_front k others) (omega (arith, to_front-length k others, length-map ts (map_screens unmarked), h.0))
      (All-toFront (λ t. Unmarked t.screens) k others (unheld-all ts)))

  -- without its mark the marked session is the session itself
  forget-mark : map_state (λ y. y.screen) (mark_front before) ≡ before
  unfolding map_state mark_front change_front
  forget-mark =
      ap₂ (λ (ys : List ℕ) (us : List (Stack ℕ)). with_tasks s (stack r (x ∷ ys) ∷ us)) (plain xs) (plains ts)
    where
      plain : (zs : List ℕ) → map (λ y. y.screen) (map unmarked zs) ≡ zs
      plain [] = refl
      plain (z ∷ zs) = ap (λ (l : List ℕ). z ∷ l) (plain zs)

      plains : (us : List (Stack ℕ)) → map (map_screens (λ y. y.screen)) (map (map_screens unmarked) us) ≡ us
      plains [] = refl
      plains (u ∷ us) = ap₂ (λ (zs : List ℕ) (vs : List (Stack ℕ)). stack u.root zs ∷ vs) (plain u.screens) (plains us)

  -- a finishing start is the start, and then the screen at the mark's position closes
  pub finished-carry : (d : Effect) (p : ℕ) → Able d p b before
      → map_state (λ y. y.screen) (close_marked (carry_out is_bmarked b (unmarked b) d p (mark_front before)))
      ≡ close_at (mark_after d p (eqb b x)) (carry_out (eqb b) b b d p before)
  finished-carry d p h =
      ap (map_state (λ y. y.screen)) (carry-mark d p (eqb b x) refl h).closes
      ∙ map-close-at (λ y. y.screen) (mark_after d p (eqb b x)) (carry_out is_bmarked b (unmarked b) d p (mark_front before))
      ∙ ap (close_at (mark_after d p (eqb b x)))
      (map-carry (λ y. y.screen) (eqb b) b (unmarked b) d p (mark_front before) ∙ ap (carry_out (eqb b) b b d p) forget-mark)

  -- and that closes one screen more, if it stands
  pub closed-carry : (d : Effect) (p : ℕ) → Able d p b before
      → closed_marked (carry_out is_bmarked b (unmarked b) d p (mark_front before)) ≡ closed_at (mark_after d p (eqb b x))
  closed-carry d p h = (carry-mark d p (eqb b x) refl h).counts
