-- Screens created less those closed are the screens standing, along every list of calls without restores from a fresh session:
-- of an effect, of the marked screen, of a call, of a list.
use Prim.Native.Nat.{ℕ, zero, suc, pred, ◌+◌, ◌-◌, ◌≤◌}
use mathlib.Core.Path.{◌≡◌, refl, ap}
use mathlib.Core.Bool.{Bool, true, false, not, ◌&&◌}
use mathlib.Core.List.{List, [], ◌∷◌}
use native.Mathlib.Omega.{arith}
use lib.Dec.{leb, eqb}
use lib.ListN.{length, take, drop, length-take, length-drop, length-append, take-append-drop}
use borrow.Author.Tests.{not-false}
use Rattle.model.specs.declared.Change.{Change}
use Rattle.model.specs.declared.Effect.{Effect}
use Rattle.model.specs.declared.Position.{Position}
use Rattle.std.specs.Prelude.{if◌then◌else◌, Option, None, Some}
use Rattle.model.specs.Lists.{is_empty, find, omit, sum_of}
use Rattle.model.specs.Refusals.{refusal}
use Rattle.model.specs.Table.{table_refusal}
use Rattle.model.specs.Session.{Stack, State, stack, no_stack, task_at, front, height, count, screens_in, fresh, most_height}
use Rattle.model.specs.Flags.{flags_of}
use Rattle.model.specs.Search.{place_of, holds}
use Rattle.model.specs.Effects.{changed, carry_out}
use Rattle.model.specs.Counts.{created_in, created_by, closed_in, closed_by}
use Rattle.model.specs.Answers.{outcome, settle}
use Rattle.model.specs.Image.{Reading, unreadable, read_as, read_more, read_tasks, tasks_read, count_in, body_in, session_in}
use Rattle.model.specs.Calls.{Call, launch, start, finishing_start, back, look, restore, chosen, effect_in, started, caller_closes, started_with, closed_with, launched, backed, own_checks, created_by_choice, closed_by_choice, closed_by_finish, created_of, closed_of, done, refusal_of, answer_to, call}
use Rattle.model.specs.Marks.{closed_at, stands_at}
use Rattle.model.proofs.Marks.{close_at}
use Rattle.model.proofs.MarkStands.{Stands}
use Rattle.model.specs.Histories.{by_rules, IsNoRestore}
use Rattle.model.specs.Balance.{if_accepted, created, ScreensBalance}
use Rattle.model.proofs.Logic.{if-elim, All-at, contradiction}
use Rattle.model.proofs.ListLaws.{is_empty-length, omit-length, to_front-length, found_at}
use Rattle.model.proofs.RefusalLaws.{refusal-skip}
use Rattle.model.proofs.Measures.{measure, carry-measure, close-measure}
use Rattle.model.proofs.Sound.{TaskSound, Sound}
use Rattle.model.proofs.Effects.{Suits, Ready}
use Rattle.model.proofs.Start.{started_by, choose-ready, start-accepted}
use Rattle.model.proofs.Finish.{finished_by, mark_of, finished-by, finished-closes, marked-stands, created-effect}
use Rattle.model.proofs.Keeps.{refusal-own, settled, fresh-sound, call-sound}
use Rattle.model.proofs.HistoryLaws.{sum-answers, along-measure}

-- the screens standing: the measure whose weight of a task is its height
abbrev pub standing : State ℕ → ℕ
standing s = measure height s

-- ---- an effect

module _ (tb : List ℕ) (b : ℕ) where
  -- the screens of a task that suits the change
  changed-height : (c : Change) (t : Stack ℕ) → Suits tb b c t
      → length (changed (eqb b) b c t.screens) + closed_in (eqb b) c t.screens ≡ height t + created_in c
  unfolding changed closed_in created_in holds
  changed-height Change.Keep t h = refl
  changed-height Change.Renew t h = omega arith
  changed-height Change.Clear t h =
      let i = pred (find (eqb b) t.screens) in
      omega (arith, length-drop i t.screens, (found_at (eqb b) 0 t.screens h.1).inside)
  changed-height Change.Lift t h = omega (arith, to_front-length (pred (find (eqb b) t.screens)) t.screens)
  changed-height Change.Push t h = omega arith

  carry-standing : (d : Effect) (p : ℕ) (s : State ℕ) → Ready tb b s d p
      → standing (carry_out (eqb b) b b d p s) + closed_by (eqb b) d p s ≡ standing s + created_by d
  unfolding closed_by created_by
  carry-standing Effect.New p s h = omega (arith, carry-measure height (eqb b) b b Effect.New p s tt)
  carry-standing (Effect.InFront c) p s h =
      omega (arith, carry-measure height (eqb b) b b (Effect.InFront c) p s h.0, changed-height c (front s) h.1)
  carry-standing (Effect.MoveAnd c) p s h =
      omega (arith, carry-measure height (eqb b) b b (Effect.MoveAnd c) p s h.0, changed-height c (task_at s.tasks p) h.1)

-- ---- a screen at a position

-- a task left empty has no height
left-height : (xs : List ℕ) → (if is_empty xs then 0 else length xs) ≡ length xs
left-height [] = refl
left-height (x ∷ xs) = refl

closed-standing : (k : Option Position) (s : State ℕ) → Stands k s → standing (close_at k s) + closed_at k ≡ standing s
closed-standing None s h = omega arith
closed-standing (Some p) s h =
    let xs = (task_at s.tasks (suc p.behind)).screens in
    omega (arith, close-measure height p.behind p.below s h.0, left-height (omit p.below xs), omit-length p.below xs h.1)

-- ---- a call

no-screens : (ts : List (Stack ℕ)) → is_empty ts ≡ true → sum_of height ts ≡ 0
no-screens [] e = refl
no-screens (t ∷ ts) e = contradiction e refl

module _ (tb : List ℕ) (s : State ℕ) (h : Sound tb s) where
  start-standing : (b w : ℕ) → 1 ≤ count s
      → standing (started_by (chosen tb s b w) b s) + closed_by_choice (chosen tb s b w) b s ≡ standing s + created_by_choice (chosen tb s b w) s
  start-standing b w some =
      let c = chosen tb s b w in
      carry-standing tb b (effect_in s c) (place_of c.found) s (choose-ready tb s b (flags_of w) h some)

  finish-standing : (b w : ℕ) → 1 ≤ count s
      → standing (finished_by (chosen tb s b w) b s) + closed_by_finish (chosen tb s b w) b s ≡ standing s + created_by_choice (chosen tb s b w) s
  finish-standing b w some =
      let c = chosen tb s b w in
      let k = closed-standing (mark_of c b s) (started_by c b s) (marked-stands tb b (flags_of w) s h some) in
      rw (finished-by tb b (flags_of w) s h some, finished-closes tb b (flags_of w) s h some)
      (omega (arith, k, start-standing b w some))

  -- whether the caller closes or not
  with-standing : (closes : Bool) (b w : ℕ) → 1 ≤ count s
      → let c = chosen tb s b w in
      standing (started_with closes (effect_in s c) (place_of c.found) b s) + closed_with closes c b s ≡ standing s + created_by_choice c s
  with-standing true b w some = finish-standing b w some
  with-standing false b w some = start-standing b w some

  done-standing : (c : Call) → IsNoRestore c → refusal (own_checks tb s c) ≡ 0
      → standing (done tb s c) + closed_of tb s c ≡ standing s + created_of tb s c
  unfolding done own_checks created_of closed_of launched started backed
  done-standing (launch v) made e =
      let z = no-screens s.tasks (not-false _ (refusal-skip 21 (not (is_empty s.tasks)) _ e).0) in
      omega (arith, z)
  done-standing (start b w) made e = with-standing (caller_closes false s.no_history (chosen tb s b w).rule) b w (start-accepted tb s b w e).some
  done-standing (finishing_start b w) made e =
      with-standing (caller_closes true s.no_history (chosen tb s b w).rule) b w (start-accepted tb s b w e).some
  done-standing back made e =
      let some = is_empty-length s.tasks (refusal-skip 20 (is_empty s.tasks) [] e).0 in
      let k = closed-standing (stands_at 0 0) s (some, (All-at (TaskSound tb) s.tasks 0 no_stack some h.each).filled) in
      omega (arith, k)
  done-standing look made e = refl
  done-standing (restore bytes) made e = absurd made

-- ---- what a call may bring

-- at most one screen, or by a restore those of the image, a byte each
abbrev pub most_brought : Call → ℕ
most_brought (launch e) = 1
most_brought (start b w) = 1
most_brought (finishing_start b w) = 1
most_brought back = 1
most_brought look = 1
most_brought (restore bytes) = length bytes

created-one : (tb : List ℕ) (s : State ℕ) (c : Call) → created_of tb s c ≤ 1
unfolding created_of
created-one tb s (launch e) = omega arith
created-one tb s (start b w) = created-effect (effect_in s (chosen tb s b w))
created-one tb s (finishing_start b w) = created-effect (effect_in s (chosen tb s b w))
created-one tb s back = omega arith
created-one tb s look = omega arith
created-one tb s (restore bytes) = omega arith

-- the tasks read from a body have no more screens than it has bytes
read-screens : (n : ℕ) (l : List ℕ) → sum_of height (tasks_read (read_tasks n l)) ≤ length l
unfolding read_tasks
read-screens zero [] = omega arith
read-screens zero (x ∷ l) = omega arith
read-screens (suc n) [] = omega arith
read-screens (suc n) (r ∷ []) = omega arith
read-screens (suc n) (r ∷ h ∷ l) =
    if-elim (λ q. sum_of height (tasks_read q) ≤ suc (suc (length l))) (leb 1 h && (leb h most_height && leb h (length l))) _ _
    (λ e. more (read_tasks n (drop h l)) (read-screens n (drop h l))) (λ e. omega arith)
  where
    more : (q : Reading) → sum_of height (tasks_read q) ≤ length (drop h l)
        → sum_of height (tasks_read (read_more (stack r (take h l)) q)) ≤ suc (suc (length l))
    more unreadable f = omega arith
    more (read_as ts) f = omega (arith, f, ap length (take-append-drop h l), length-append (take h l) (drop h l))

restored-standing : (tb : List ℕ) (s : State ℕ) (bytes : List ℕ)
    → standing (done tb s (restore bytes)) + closed_of tb s (restore bytes) ≤ standing s + length bytes
unfolding done closed_of session_in
restored-standing tb s bytes =
    let f = read-screens (count_in bytes) (body_in bytes) in
    let g = length-take (length bytes - 6) bytes in
    omega (arith, f, g)

module _ (tb : List ℕ) (ok : table_refusal tb ≡ 0) where
  -- a refused call adds nothing to either
  call-standing : (s : State ℕ) → Sound tb s → (c : Call) → IsNoRestore c
      → standing (call tb s c).session + (call tb s c).answer.closed ≡ standing s + created tb s c
  call-standing s h c made = rw (settled tb ok s h c, refusal-own tb ok s h c) (go (refusal (own_checks tb s c)) refl)
    where
      go : (n : ℕ) → refusal (own_checks tb s c) ≡ n
          → let o = settle outcome n s (done tb s c) (answer_to tb s c) in
          standing o.session + o.answer.closed ≡ standing s + if_accepted n (created_of tb s c)
      go zero e = done-standing tb s h c made e
      go (suc k) e = refl

  -- ---- bounds: what a call creates, and what it leaves and closes

  pub created-most : (s : State ℕ) (c : Call) → created tb s c ≤ 1
  created-most s c = go (refusal_of tb s c)
    where
      go : (n : ℕ) → if_accepted n (created_of tb s c) ≤ 1
      go zero = created-one tb s c
      go (suc k) = omega arith

  pub call-most : (s : State ℕ) → Sound tb s → (c : Call)
      → standing (call tb s c).session + (call tb s c).answer.closed ≤ standing s + most_brought c
  call-most s h (launch e) = omega (arith, call-standing s h (launch e) tt, created-most s (launch e))
  call-most s h (start b w) = omega (arith, call-standing s h (start b w) tt, created-most s (start b w))
  call-most s h (finishing_start b w) = omega (arith, call-standing s h (finishing_start b w) tt, created-most s (finishing_start b w))
  call-most s h back = omega (arith, call-standing s h back tt, created-most s back)
  call-most s h look = omega (arith, call-standing s h look tt, created-most s look)
  call-most s h (restore bytes) = rw (settled tb ok s h (restore bytes)) (go (refusal (own_checks tb s (restore bytes))))
    where
      go : (n : ℕ) → let o = settle outcome n s (done tb s (restore bytes)) (answer_to tb s (restore bytes)) in
          standing o.session + o.answer.closed ≤ standing s + length bytes
      go zero = restored-standing tb s bytes
      go (suc k) = omega arith

-- ---- a list

pub screens-balance : (tb : List ℕ) → ScreensBalance tb
unfolding screens_in
screens-balance tb ok cs made =
    let m = by_rules tb in
    let e = along-measure m standing (created tb) (λ s c. (m.answer s c).closed) (Sound tb) IsNoRestore
    (λ s h c k. call-sound tb ok s h c) (call-standing tb ok) fresh (fresh-sound tb) cs made in
    let f = sum-answers m (λ a. a.closed) cs fresh in
    record { most = omega (arith, e, f); balance = omega (arith, e, f) }
