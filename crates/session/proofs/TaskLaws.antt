-- A task's screens are stored bottom first, and the model has them top first: push, pop, clear and lift of the stored
-- bytes are those of the list.
use Prim.Native.Nat.{ℕ, zero, suc, ◌+◌, ◌-◌, ◌≤◌, ◌<◌}
use mathlib.Core.Path.{◌≡◌, sym, ◌∙◌, ap, ap₂}
use mathlib.Core.List.{List, [], ◌∷◌, ◌++◌, reverse, reverse-cons, reverse-append}
use native.Mathlib.Omega.{arith}
use native.Mathlib.Numerals.{add-one}
use lib.ListN.{length, get_or, set, take, drop, replicate, length-reverse, length-drop, take-append-drop, get_or-append}
use lib.Seq.{take_at, drop_at, get_or_at, get_or-take, length-take-le, set_at, drop-cons, paste, length_paste_head}
use Rattle.model.specs.Lists.{to_front}
use Rattle.model.specs.Session.{stack, height, most_height}
use Rattle.model.proofs.ListLaws.{to_front-length, to_front-split}
use Rattle.session.specs.declared.Task.{Task}
use Rattle.session.specs.Stored.{view_task, hold_task, with_height, with_screens, pad, pushed, popped}
use Rattle.session.proofs.Padding.{pad-push, pad-pop, pad-keep, pad-lift}

-- ---- reverse by parts: what is k from one end is m from the other

module _ {A : Type 0} where
  apart : (k : ℕ) (xs : List A) → reverse xs ≡ reverse (drop k xs) ++ reverse (take k xs)
  apart k xs = sym (ap reverse (take-append-drop k xs)) ∙ reverse-append (take k xs) (drop k xs)

  behind : (m k : ℕ) (xs : List A) → m + k ≡ length xs → length (reverse (drop k xs)) ≡ m
  behind m k xs e = omega (arith, length-reverse (drop k xs), length-drop k xs)

  pub reverse-drop : (m k : ℕ) (xs : List A) → m + k ≡ length xs → reverse (drop k xs) ≡ take m (reverse xs)
  reverse-drop m k xs e = sym (ap (take m) (apart k xs) ∙ take_at (reverse (drop k xs)) (reverse (take k xs)) m (behind m k xs e))

  pub reverse-take : (m k : ℕ) (xs : List A) → m + k ≡ length xs → reverse (take k xs) ≡ drop m (reverse xs)
  reverse-take m k xs e = sym (ap (drop m) (apart k xs) ∙ drop_at (reverse (drop k xs)) (reverse (take k xs)) m (behind m k xs e))

  pub get_d_reverse : (m k : ℕ) (xs : List A) (d : A) → m + suc k ≡ length xs → get_or (reverse xs) m d ≡ get_or xs k d
  get_d_reverse m k [] d e = absurd (omega arith)
  get_d_reverse m zero (x ∷ xs) d e = rw (reverse-cons x xs) (get_or_at (reverse xs) x [] d m (omega (arith, length-reverse xs)))
  get_d_reverse m (suc k) (x ∷ xs) d e =
      let l : m < length (reverse xs) = omega (arith, length-reverse xs) in
      rw (reverse-cons x xs) (get_or-append (reverse xs) (x ∷ []) d m l ∙ get_d_reverse m k xs d (omega arith))

-- ---- the parts of a task

module _ (t : Task) (fits : t.height ≤ length t.screens) where
  pub view-height : height (view_task t) ≡ t.height
  unfolding view_task
  view-height = length-reverse (take t.height t.screens) ∙ length-take-le t.height t.screens fits

  -- the screen below k others stands behind m others in storage
  pub view-screen : (m k : ℕ) → m + suc k ≡ t.height → get_or (view_task t).screens k 0 ≡ get_or t.screens m 0
  unfolding view_task
  view-screen m k e =
      let l : length (take t.height t.screens) ≡ t.height = length-take-le t.height t.screens fits in
      get_d_reverse k m (take t.height t.screens) 0 (omega arith) ∙ get_or-take t.height t.screens m 0 (omega arith)

-- ---- push and pop

pub hold-pushed : (r b : ℕ) (xs : List ℕ) → length xs < most_height → hold_task (stack r (b ∷ xs)) ≡ pushed (hold_task (stack r xs)) b
unfolding hold_task
hold-pushed r b xs h =
    let s : pad most_height 0 (reverse (b ∷ xs)) ≡ set (pad most_height 0 (reverse xs)) (length xs) b =
    ap (pad most_height 0) (reverse-cons b xs) ∙ pad-push most_height 0 (length xs) b (reverse xs) (length-reverse xs) h in
    λ i. record { root = r; height = sym (add-one (length xs)) i; screens = s i }

pub hold-popped : (r x : ℕ) (xs : List ℕ) → length xs < most_height → hold_task (stack r xs) ≡ popped (hold_task (stack r (x ∷ xs)))
unfolding hold_task
hold-popped r x xs h =
    let l : length xs ≡ suc (length xs) - 1 = omega arith in
    let s : pad most_height 0 (reverse xs) ≡ set (pad most_height 0 (reverse xs ++ (x ∷ []))) (suc (length xs) - 1) 0 =
    pad-pop most_height 0 (suc (length xs) - 1) x (reverse xs) (length-reverse xs ∙ l) (omega arith) in
    rw (reverse-cons x xs) (λ i. record { root = r; height = l i; screens = s i })

-- ---- clear and lift

-- the h lowest screens stay, and what stood above is 0
abbrev pub cleared : Task → ℕ → Task
cleared t h = with_height (with_screens t (take h t.screens ++ replicate (most_height - h) 0)) h

pub hold-cleared : (r m k : ℕ) (xs : List ℕ) → m + k ≡ length xs → hold_task (stack r (drop k xs)) ≡ cleared (hold_task (stack r xs)) m
unfolding hold_task
hold-cleared r m k xs e =
    let l : length (drop k xs) ≡ m = omega (arith, length-drop k xs) in
    let s : pad most_height 0 (reverse (drop k xs)) ≡ take m (pad most_height 0 (reverse xs)) ++ replicate (most_height - m) 0 =
    ap (pad most_height 0) (reverse-drop m k xs e) ∙ pad-keep most_height 0 m (reverse xs) (omega (arith, length-reverse xs)) in
    λ i. record { root = r; height = l i; screens = s i }

-- the screen behind m others in storage goes on top, and those above it move down by one
abbrev pub lifted : Task → ℕ → Task
lifted t m =
    with_screens t
    (take m t.screens ++ take (t.height - suc m) (drop (suc m) t.screens) ++ get_or t.screens m 0 ∷ drop t.height t.screens)

reverse-lifted : (m k : ℕ) (xs : List ℕ) → m + suc k ≡ length xs
    → reverse (to_front k xs) ≡ (take m (reverse xs) ++ drop (suc m) (reverse xs)) ++ (get_or (reverse xs) m 0 ∷ [])
reverse-lifted m k xs e =
    ap reverse (to_front-split 0 k xs (omega arith))
    ∙ reverse-cons (get_or xs k 0) (take k xs ++ drop (suc k) xs)
    ∙ ap₂ (λ (ys : List ℕ) (x : ℕ). ys ++ (x ∷ []))
    (reverse-append (take k xs) (drop (suc k) xs) ∙ ap₂ ◌++◌ (reverse-drop m (suc k) xs e) (reverse-take (suc m) k xs (omega arith)))
    (sym (get_d_reverse m k xs 0 e))

pub hold-lifted : (r m k : ℕ) (xs : List ℕ) → m + suc k ≡ length xs → length xs ≤ most_height
    → hold_task (stack r (to_front k xs)) ≡ lifted (hold_task (stack r xs)) m
unfolding hold_task
hold-lifted r m k xs e h =
    let s : pad most_height 0 (reverse (to_front k xs)) ≡ (lifted (hold_task (stack r xs)) m).screens =
    ap (pad most_height 0) (reverse-lifted m k xs e) ∙ pad-lift most_height 0 m (length xs) (reverse xs) (length-reverse xs) (omega arith) h in
    λ i. record { root = r; height = to_front-length k xs i; screens = s i }

-- the same as a loop leaves it: k screens copied down by one, then one store
pub lift-copied : {A : Type 0} (s : List A) (m k : ℕ) (x : A) → m + suc k ≤ length s
    → set (paste s m (drop (suc m) s) k) (m + k) x ≡ take m s ++ take k (drop (suc m) s) ++ x ∷ drop (m + suc k) s
lift-copied s m k x h =
    let p = take m s ++ take k (drop (suc m) s) in
    let n : suc (m + k) ≡ m + suc k = omega arith in
    let c : drop (m + k) s ≡ get_or s (m + k) x ∷ drop (m + suc k) s =
    drop-cons s (m + k) x (omega arith) ∙ ap (λ (j : ℕ). get_or s (m + k) x ∷ drop j s) n in
    let l : k ≤ length (drop (suc m) s) = omega (arith, length-drop (suc m) s) in
    rw c (set_at p (get_or s (m + k) x) (drop (m + suc k) s) x (m + k) (length_paste_head s m (drop (suc m) s) k (omega arith) l))
