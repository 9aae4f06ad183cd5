-- A stored task of a session with blank storage; and an effect on a stored session, by what it puts in front.
use Prim.Native.Nat.{ℕ, suc, ◌≤◌, ◌<◌, pred}
use mathlib.Core.Path.{◌≡◌, refl, sym, ◌∙◌, ap, ap₂, subst}
use mathlib.Core.Bool.{true, ◌&&◌}
use mathlib.Core.List.{List, [], ◌∷◌, map}
use native.Mathlib.Omega.{arith}
use lib.Dec.{leb, eqb}
use lib.ListN.{length, get_or, set, take, drop, length-map}
use lib.Seq.{get_or-take, length-take-le}
use Rattle.model.specs.declared.Change.{Change}
use Rattle.model.specs.declared.Effect.{Effect}
use Rattle.model.specs.Lists.{all, further, to_front, on_first}
use Rattle.model.specs.Session.{Stack, State, stack, no_stack, on_screens, on_tasks, on_main, count, most_tasks}
use Rattle.model.specs.Effects.{main_moved, move, changed, change_front, put_new, carry_out}
use Rattle.model.proofs.Logic.{and_left, and_right, All-at, all-decides, self-decides}
use Rattle.model.proofs.ListLaws.{to_front-zero, to_front-length, to_front-split}
use Rattle.session.specs.declared.Session.{Session}
use Rattle.session.specs.declared.Task.{Task}
use Rattle.session.specs.Stored.{view, view_task, hold, hold_task, no_task, blank_task, blank_above, is_blank, storage_blank}
use Rattle.session.proofs.Setters.{with_tasks, with_count, with_main}
use Rattle.session.proofs.Known.{Sized}
use Rattle.session.proofs.StoredLaws.{held, view-at, view-count, blank-few}
use Rattle.session.proofs.SessionLaws.{hold_row, hold-set, hold-to_front}
use Rattle.effects.specs.Carriable.{HasRoom, Placed, Changeable}
use Rattle.effects.proofs.Carriable.{Finds, Carriable}
use Rattle.effects.specs.Fronted.{changed_task, shift_of, front_after, count_after, main_after}
use Rattle.effects.specs.Rows.{shifted}
use Rattle.effects.proofs.Rows.{pad-shifted}

-- a stored session after an effect
abbrev pub fronted : Session → ℕ → Effect → ℕ → Session
fronted s b d p =
    let k = shift_of d p s.n in
    with_main
    (with_count (with_tasks s (shifted (front_after b d (get_or s.tasks k no_task)) k s.tasks)) (count_after d s.n))
    (main_after d p s.main)

module _ {A : Type 0} (d : A) (k : ℕ) (xs : List A) (h : k < length xs) where
  -- one comes to the front changed
  moved-set : (f : A → A) → on_first f (to_front k xs) ≡ set (to_front k xs) 0 (f (get_or xs k d))
  moved-set f = rw (to_front-split d k xs h)

  moved-shifted : (x : A) → set (to_front k xs) 0 x ≡ shifted x k xs
  moved-shifted x = rw (to_front-split d k xs h)

hold-put : (v : State ℕ) (t : Stack ℕ) → count v < most_tasks
    → hold (on_tasks (λ ts. t ∷ ts) v) ≡ with_count (with_tasks (hold v) (shifted (hold_task t) (count v) (hold v).tasks)) (suc (count v))
unfolding hold
hold-put v t h =
    hold_row v (λ ts. t ∷ ts) refl
    (pad-shifted most_tasks blank_task (hold_task t) (count v) (map hold_task v.tasks) (length-map v.tasks hold_task) h)

module _ (s : Session) (z : Sized s) (e : storage_blank s ≡ true) where
  pub counted : count (view s) ≡ s.n
  counted = view-count s z (blank-few s e)

  pub stored-blank : (i : ℕ) → i < s.n → blank_above (get_or s.tasks i no_task) ≡ true
  unfolding storage_blank
  stored-blank i h =
      let few = blank-few s e in
      let ts = take s.n s.tasks in
      let rest = and_right (leb s.n most_tasks) (all blank_above ts && all is_blank (drop s.n s.tasks)) e in
      let each = (all-decides (λ t. self-decides (blank_above t)) ts).holds (and_left (all blank_above ts) (all is_blank (drop s.n s.tasks)) rest) in
      let l : length ts ≡ s.n = length-take-le s.n s.tasks (omega (arith, z.tasks)) in
      rw (get_or-take s.n s.tasks i no_task h) at (All-at (λ t. blank_above t ≡ true) ts i no_task (omega arith) each)

  -- a new task
  new-stored : (b : ℕ) → s.n < most_tasks
      → hold (put_new b b (view s))
      ≡ with_main (with_count (with_tasks s (shifted (hold_task (stack b (b ∷ []))) s.n s.tasks)) (suc s.n)) (further s.main)
  unfolding put_new view hold
  new-stored b h =
      let n = counted in
      hold-put (on_main further (view s)) (stack b (b ∷ [])) (omega arith)
      ∙ ap₂ (λ (c : Session) (j : ℕ). with_main (with_count (with_tasks c (shifted (hold_task (stack b (b ∷ []))) j c.tasks)) (suc j)) (further s.main))
      (held s z e) n

  -- the task behind k others, moved to the front and changed, with another main place
  changed-stored : (b : ℕ) (c : Change) (k : ℕ) (g : ℕ → ℕ) → k < s.n
      → hold (change_front (changed (eqb b) b c) (on_tasks (to_front k) (on_main g (view s))))
      ≡ with_main (with_tasks s (shifted (changed_task b c (get_or s.tasks k no_task)) k s.tasks)) (g s.main)
  unfolding change_front view_task view hold
  changed-stored b c k g h =
      let few = blank-few s e in
      let n = counted in
      let l = to_front-length k (view s).tasks in
      let f : Stack ℕ → Stack ℕ = on_screens (changed (eqb b) b c) in
      let v = on_main g (view s) in
      let moved = on_tasks (to_front k) v in
      let t = get_or s.tasks k no_task in
      ap (λ (ts : List (Stack ℕ)). hold (on_tasks (λ us. ts) moved)) (moved-set no_stack k (view s).tasks (omega arith) f)
      ∙ hold-set moved 0 (f (get_or (view s).tasks k no_stack)) (omega arith)
      ∙ ap₂ (λ (o : Session) (u : Stack ℕ). with_tasks o (set o.tasks 0 (hold_task (f u)))) (hold-to_front v k (omega arith)) (view-at s k h)
      ∙ ap (λ (o : Session). with_main (with_tasks o (set (to_front k o.tasks) 0 (changed_task b c t))) (g s.main)) (held s z e)
      ∙ ap (λ (ts : List Task). with_main (with_tasks s ts) (g s.main))
      (moved-shifted no_task k s.tasks (omega (arith, z.tasks)) (changed_task b c t))

-- ---- an effect that can be carried out

module _ (s : Session) (z : Sized s) (p : ℕ) where
  pub placed : (d : Effect) → Carriable s d p → Placed d p
  placed Effect.New k = tt
  placed (Effect.InFront c) k = tt
  placed (Effect.MoveAnd c) k = k.finds.0.0

  pub main-low : (d : Effect) → Carriable s d p → d ≡ Effect.New → s.main ≤ most_tasks
  unfolding view
  main-low d k e = let f = subst (λ (x : Effect). Finds x p (view s)) e k.finds in omega arith

  -- the task that is changed stands
  pub in-front : {c : Change} → Carriable s (Effect.InFront c) p → 0 < s.n
  in-front k = let n = counted s z k.blank in omega (arith, k.finds.0)

  pub at_place : {c : Change} → Carriable s (Effect.MoveAnd c) p → pred p < s.n
  at_place k = let n = counted s z k.blank in omega (arith, k.finds.0)

  pub shift-low : (d : Effect) → Carriable s d p → shift_of d p s.n < most_tasks
  shift-low Effect.New k = let n = counted s z k.blank in omega (arith, k.finds.0)
  shift-low (Effect.InFront c) k = omega arith
  shift-low (Effect.MoveAnd c) k = omega (arith, at_place k, blank-few s k.blank)

  standing : (c : Change) (j : ℕ) → storage_blank s ≡ true → j < s.n → HasRoom c (get_or (view s).tasks j no_stack)
      → (blank_above (get_or s.tasks j no_task) ≡ true) × HasRoom c (view_task (get_or s.tasks j no_task))
  standing c j e h r = (stored-blank s z e j h, λ q. rw (view-at s j h) at (r q))

  pub changeable : (d : Effect) → Carriable s d p → Changeable d (get_or s.tasks (shift_of d p s.n) no_task)
  changeable Effect.New k = tt
  changeable (Effect.InFront c) k = standing c 0 k.blank (in-front k) k.finds.1
  changeable (Effect.MoveAnd c) k = standing c (pred p) k.blank (at_place k) k.finds.1

  -- an effect by what it puts in front
  pub carried : (b : ℕ) (d : Effect) → Carriable s d p → hold (carry_out (eqb b) b b d p (view s)) ≡ fronted s b d p
  unfolding carry_out move view
  carried b Effect.New k = let n = counted s z k.blank in new-stored s z k.blank b (omega (arith, k.finds.0))
  carried b (Effect.InFront c) k =
      ap (λ (ts : List (Stack ℕ)). hold (change_front (changed (eqb b) b c) (on_tasks (λ us. ts) (view s)))) (sym (to_front-zero (view s).tasks))
      ∙ changed-stored s z k.blank b c 0 (λ m. m) (in-front k)
  carried b (Effect.MoveAnd c) k = changed-stored s z k.blank b c (pred p) (main_moved p) (at_place k)
