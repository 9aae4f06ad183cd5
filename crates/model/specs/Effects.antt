-- Document 01, "Calls": move, clear to B, lift, new, empty, push; what each rule does, by edition (document 02, request 4); and
-- closing a screen.
-- Screens may be of any kind: `is_b` tells which of them are B, and `new_b` is the B that is pushed.
use Rattle.std.specs.Prelude.{ℕ, suc, pred, Bool, ◌&&◌, List, [], ◌∷◌, eqb, ltb, set, drop, if◌then◌else◌}
use Rattle.model.specs.declared.Rule.{Rule}
use Rattle.model.specs.declared.Change.{Change}
use Rattle.model.specs.declared.Effect.{Effect}
use Rattle.model.specs.Lists.{is_empty, further, find, omit, to_front, on_first}
use Rattle.model.specs.Session.{Stack, State, stack, on_screens, on_tasks, on_main, on_edition, set_no_history, task_at, count, edition_kept}

-- what R9 does with the front task: "lift"; and "Edition 7 ..: where R9 fits and the front task is the main one, the task is
-- emptied and B pushed" (02, request 4)
unfoldable pub reordered : ℕ → ℕ → Change
reordered e m = if eqb e 7 && eqb m 1 then Change.Renew else Change.Lift

-- what 01 writes behind each rule's colon. A change is what is done with the screens of the front task: nothing
-- (`Keep`), "empty, push B" (`Renew`), "clear to B", "lift" or "push B".
-- e is the edition, m the main place.
unfoldable pub effect_of : ℕ → ℕ → Rule → Effect
effect_of e m Rule.R1 = Effect.MoveAnd Change.Keep
effect_of e m Rule.R2 = Effect.New
effect_of e m Rule.R3 = Effect.MoveAnd Change.Renew
effect_of e m Rule.R4 = Effect.MoveAnd Change.Clear
effect_of e m Rule.R5 = Effect.MoveAnd Change.Push
effect_of e m Rule.R6 = Effect.New
effect_of e m Rule.R7 = Effect.InFront Change.Keep
effect_of e m Rule.R8 = Effect.InFront Change.Clear
effect_of e m Rule.R9 = Effect.InFront (reordered e m)
effect_of e m Rule.R10 = Effect.InFront Change.Push
effect_of e m Rule.R11 = Effect.New
effect_of e m Rule.R12 = Effect.MoveAnd Change.Renew
effect_of e m Rule.R13 = Effect.MoveAnd Change.Clear
effect_of e m Rule.R14 = Effect.MoveAnd Change.Push
effect_of e m Rule.R15 = Effect.MoveAnd Change.Keep
effect_of e m Rule.R16 = Effect.MoveAnd Change.Keep
effect_of e m Rule.R17 = Effect.MoveAnd Change.Push
effect_of e m Rule.R18 = Effect.New

-- m when the task at place p comes to the front: "the others keeping their order, m following"
unfoldable pub main_moved : ℕ → ℕ → ℕ
main_moved p m = if eqb m 0 then 0 else if eqb m p then 1 else if ltb m p then suc m else m

-- m when the task at place p goes: "m follows its task or becomes 0"
unfoldable pub main_without : ℕ → ℕ → ℕ
main_without p m = if eqb m p then 0 else if ltb p m then pred m else m

module _ {A : Type 0} where
  -- "Move brings a task to the front, the others keeping their order, m following."
  unfoldable pub move : ℕ → State A → State A
  move p s = on_tasks (to_front (pred p)) (on_main (main_moved p) s)

  -- "Clear to B removes all above the topmost B and keeps that B. Lift takes the topmost B to the top. .. Empty
  -- removes all screens of the moved task."
  unfoldable pub changed : (A → Bool) → A → Change → List A → List A
  changed is_b new_b Change.Keep xs = xs
  changed is_b new_b Change.Renew xs = new_b ∷ []
  changed is_b new_b Change.Clear xs = drop (pred (find is_b xs)) xs
  changed is_b new_b Change.Lift xs = to_front (pred (find is_b xs)) xs
  changed is_b new_b Change.Push xs = new_b ∷ xs

  -- a change of the front task's screens
  unfoldable pub change_front : (List A → List A) → State A → State A
  change_front f s = on_tasks (on_first (on_screens f)) s

  -- "New puts a task of B alone in front."
  unfoldable pub put_new : ℕ → A → State A → State A
  put_new b new_b s = on_tasks (λ ts. stack b (new_b ∷ []) ∷ ts) (on_main further s)

  -- an effect carried out; p is the place of the task found
  unfoldable pub carry_out : (A → Bool) → ℕ → A → Effect → ℕ → State A → State A
  carry_out is_b b new_b Effect.New p s = put_new b new_b s
  carry_out is_b b new_b (Effect.InFront c) p s = change_front (changed is_b new_b c) s
  carry_out is_b b new_b (Effect.MoveAnd c) p s = change_front (changed is_b new_b c) (move p s)

  -- "the session keeps it until empty, when it is 8 again" (02, request 4)
  abbrev pub keep_edition : State A → State A
  keep_edition s = on_edition (edition_kept (count s)) s

  -- the task at place p "goes, and m follows its task or becomes 0"
  abbrev pub without_task : ℕ → State A → State A
  without_task p s = keep_edition (on_tasks (omit (pred p)) (on_main (main_without p) s))

  -- the task at place p without the screen that stands below i others
  abbrev pub task_left : ℕ → ℕ → State A → Stack A
  task_left p i s = on_screens (omit i) (task_at s.tasks p)

  -- "removes the front screen; a task left empty goes, and m follows its task or becomes 0": in the task at place p, the
  -- screen that stands below i others. The No-History mark goes: "other accepted calls clear it" (02, request 7).
  unfoldable pub close : ℕ → ℕ → State A → State A
  close p i s =
      if is_empty (task_left p i s).screens then without_task p (set_no_history 0 s)
      else on_tasks (λ ts. set ts (pred p) (task_left p i s)) (set_no_history 0 s)
