-- A task gone from a stored session is that task gone from its list, with a blank place at the end.
use Prim.Native.Nat.{ℕ, zero, suc, ◌+◌, ◌-◌, ◌≤◌, ◌<◌}
use mathlib.Core.Path.{◌≡◌, refl, sym, ◌∙◌, ap, ap₂}
use mathlib.Core.Bool.{true}
use mathlib.Core.List.{List, [], ◌∷◌, ◌++◌, map, append_assoc}
use native.Mathlib.Omega.{arith}
use lib.ListN.{length, get_or, replicate, length-map, replicate-append-replicate}
use Rattle.model.specs.Lists.{omit}
use Rattle.model.specs.Session.{State, on_tasks, on_main, set_no_history, count, most_tasks, edition_kept}
use Rattle.model.specs.Effects.{main_without, without_task, close}
use Rattle.model.proofs.ListLaws.{omit-length, map-omit}
use Rattle.session.specs.declared.Session.{Session}
use Rattle.session.specs.Stored.{view, hold, hold_task, pad, no_task, blank_task, storage_blank}
use Rattle.session.proofs.Setters.{with_tasks, with_count, with_main, with_edition, with_no_history}
use Rattle.session.proofs.Known.{Sized}
use Rattle.session.proofs.StoredLaws.{held, blank-few}
use Rattle.session.proofs.SessionLaws.{hold_row}
use Rattle.effects.proofs.Fronts.{counted}
use Rattle.closing.proofs.Closable.{Closable}
use Rattle.closing.proofs.Closed.{task-there, task-closed, screen-there}

module _ {A : Type 0} where
  omit-append : (m : ℕ) (xs zs : List A) → m < length xs → omit m (xs ++ zs) ≡ omit m xs ++ zs
  omit-append m [] zs h = absurd (omega arith)
  omit-append zero (x ∷ xs) zs h = refl
  omit-append (suc m) (x ∷ xs) zs h = ap (λ (ys : List A). x ∷ ys) (omit-append m xs zs (omega arith))

  pad-omit : (n : ℕ) (z : A) (m : ℕ) (xs : List A) → m < length xs → length xs ≤ n → pad n z (omit m xs) ≡ omit m (pad n z xs) ++ z ∷ []
  unfolding pad
  pad-omit n z m xs h l =
      let j = n - length xs in
      let g : n - length (omit m xs) ≡ j + 1 = omega (arith, omit-length m xs h) in
      ap (λ (i : ℕ). omit m xs ++ replicate i z) g
      ∙ ap (λ (ys : List A). omit m xs ++ ys) (sym (replicate-append-replicate j 1 z))
      ∙ sym (append_assoc (omit m xs) (replicate j z) (z ∷ []))
      ∙ ap (λ (ys : List A). ys ++ z ∷ []) (sym (omit-append m xs (replicate j z) h))

hold-omit : (v : State ℕ) (k : ℕ) → k < count v → count v ≤ most_tasks
    → hold (on_tasks (omit k) v) ≡ with_count (with_tasks (hold v) (omit k (hold v).tasks ++ blank_task ∷ [])) (count v - 1)
unfolding hold
hold-omit v k h l =
    let n : length (omit k v.tasks) ≡ count v - 1 = omega (arith, omit-length k v.tasks h) in
    let c = length-map v.tasks hold_task in
    hold_row v (omit k) n
    (ap (pad most_tasks blank_task) (map-omit hold_task k v.tasks)
    ∙ pad-omit most_tasks blank_task k (map hold_task v.tasks) (omega arith) (omega arith))

-- the session without the task behind k others
abbrev pub gone_from : Session → ℕ → Session
gone_from q k =
    with_no_history
    (with_edition
    (with_main (with_count (with_tasks q (omit k q.tasks ++ blank_task ∷ [])) (q.n - 1)) (main_without (suc k) q.main))
    (edition_kept (q.n - 1) q.edition))
    0

gone_held : (q : Session) → Sized q → storage_blank q ≡ true → (k : ℕ) → k < q.n
    → hold (without_task (suc k) (set_no_history 0 (view q))) ≡ gone_from q k
unfolding view hold
gone_held q z e k h =
    let c = counted q z e in
    let few = blank-few q e in
    let m = main_without (suc k) in
    let n : length (omit k (view q).tasks) ≡ q.n - 1 = omega (arith, omit-length k (view q).tasks (omega arith)) in
    ap (λ (o : Session). with_no_history o 0)
    (ap₂ (λ (o : Session) (j : ℕ). with_edition o (edition_kept j q.edition)) (hold-omit (on_main m (view q)) k (omega arith) (omega arith)) n
    ∙ ap₂ (λ (o : Session) (j : ℕ).
    with_edition (with_main (with_count (with_tasks o (omit k o.tasks ++ blank_task ∷ [])) (j - 1)) (m q.main)) (edition_kept (q.n - 1) q.edition))
    (held q z e) c)

-- closing the only screen of a task
pub task-goes : (q : Session) → Sized q → (k i : ℕ) → Closable q k i → (get_or q.tasks k no_task).height ≤ 1
    → gone_from q k ≡ hold (close (suc k) i (view q))
task-goes q z k i c low =
    let l = (screen-there q z k i c).1 in
    task-closed q z k i c (omega arith) (sym (gone_held q z c.blank k (task-there q z k i c).1))
