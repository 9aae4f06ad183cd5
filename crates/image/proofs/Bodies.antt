-- The bytes of a stored session's tasks, one task more at a time; with the trailer behind them they are its image.
use Prim.Native.Nat.{ℕ, ◌+◌, ◌≤◌, ◌<◌}
use mathlib.Core.Path.{◌≡◌, refl, sym, ◌∙◌, ap}
use mathlib.Core.Bool.{true}
use mathlib.Core.List.{List, [], ◌∷◌, ◌++◌, append_assoc}
use native.Mathlib.Nat.{zero-add}
use native.Mathlib.Numerals.{add-one}
use native.Mathlib.Omega.{arith}
use lib.ListN.{length, get_or, take, drop, length-append, take-append-drop}
use lib.Seq.{take-suc, take_all}
use Rattle.model.specs.Session.{Stack, no_stack, height, count, most_height}
use Rattle.model.specs.Image.{body_of, main_byte, trailer, image}
use Rattle.model.proofs.WrittenLaws.{Wrote, wrote-append}
use Rattle.session.specs.declared.Session.{Session}
use Rattle.session.specs.Stored.{view, view_task, no_task, storage_blank}
use Rattle.session.proofs.Known.{Sized}
use Rattle.session.proofs.StoredLaws.{blank-few, view-count, view-at, sized-at, stored-height}
use Rattle.session.proofs.TaskLaws.{view-height}

-- ---- tasks

body-append : (xs ys : List (Stack ℕ)) → body_of (xs ++ ys) ≡ body_of xs ++ body_of ys
body-append [] ys = refl
body-append (t ∷ ts) ys =
    ap (λ (l : List ℕ). t.root ∷ height t ∷ l)
    (ap (λ (l : List ℕ). t.screens ++ l) (body-append ts ys) ∙ sym (append_assoc t.screens (body_of ts) (body_of ys)))

-- the first tasks take no more than all of them
pub body-part : (i : ℕ) (ts : List (Stack ℕ)) → length (body_of (take i ts)) ≤ length (body_of ts)
body-part i ts =
    let e = ap (λ (us : List (Stack ℕ)). length (body_of us)) (take-append-drop i ts) in
    let f = ap length (body-append (take i ts) (drop i ts)) in
    omega (arith, length-append (body_of (take i ts)) (body_of (drop i ts)))

-- ---- the tasks of a stored session

-- the task that stands behind i others: its bytes behind theirs, and how many they are
pub record Next (c : Session) (i : ℕ) : Type 0 where
  pub low : (get_or c.tasks i no_task).height ≤ most_height
  pub bytes : body_of (take (i + 1) (view c).tasks) ≡ body_of (take i (view c).tasks) ++ body_of (view_task (get_or c.tasks i no_task) ∷ [])
  pub long : length (body_of (take (i + 1) (view c).tasks)) ≡ length (body_of (take i (view c).tasks)) + 2 + (get_or c.tasks i no_task).height

module _ (c : Session) (z : Sized c) (e : storage_blank c ≡ true) where
  counted : count (view c) ≡ c.n
  counted = view-count c z (blank-few c e)

  -- all of them
  pub body-whole : (i : ℕ) → i ≡ c.n → body_of (take i (view c).tasks) ≡ body_of (view c).tasks
  body-whole i k = ap body_of (take_all i (view c).tasks (omega (arith, counted)))

  -- and the trailer behind them
  pub image-wrote : (i : ℕ) → i ≡ c.n → {d d' d'' : List ℕ} {at next x : ℕ} → Wrote d 0 (body_of (take i (view c).tasks)) d' at
      → at ≤ length d → x ≡ main_byte c.main c.no_history → Wrote d' at (trailer at c.n x c.edition) d'' next
      → Wrote d 0 (image (view c)) d'' next
  unfolding image view
  image-wrote i k {at} v fits e w =
      let b = body_of (view c).tasks in
      let u = rw (body-whole i k) at v in
      let l : at ≡ length b = u.place ∙ zero-add (length b) in
      rw (counted, ← l, ← e) (wrote-append u fits w)

  pub body-next : (i : ℕ) → i < c.n → Next c i
  body-next i h =
      let few = blank-few c e in
      let t = get_or c.tasks i no_task in
      let low = stored-height c z e i h in
      let ts = take i (view c).tasks in
      let b : body_of (take (i + 1) (view c).tasks) ≡ body_of ts ++ body_of (view_task t ∷ []) =
      rw (add-one i, take-suc (view c).tasks i no_stack (omega (arith, counted)), view-at c i h) (body-append ts (view_task t ∷ [])) in
      let l = ap length b in
      let k = view-height t (omega (arith, sized-at c z i (omega arith))) in
      record {
        low = low;
        bytes = b;
        long = omega (arith, length-append (body_of ts) (body_of (view_task t ∷ [])), length-append (view_task t).screens []);
      }
