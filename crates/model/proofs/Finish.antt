-- A finishing start on a sound session: the rule, and then the screen at the mark's position closes, if it stands. So every start
-- keeps a session sound; and where it leaves a No-History mark, a screen stands.
use Prim.Native.Nat.{ℕ, zero, suc, pred, ◌≤◌, zero-le}
use mathlib.Core.Path.{◌≡◌, refl, ◌∙◌}
use mathlib.Core.Bool.{Bool, true, false, not, ◌&&◌, ◌||◌}
use mathlib.Core.List.{List, [], ◌∷◌}
use native.Mathlib.Nat.{not-suc-le-zero}
use native.Mathlib.Omega.{arith}
use lib.Dec.{eqb}
use lib.ListN.{length}
use Rattle.model.specs.declared.Change.{Change}
use Rattle.model.specs.declared.Choice.{Choice}
use Rattle.model.specs.declared.Effect.{Effect}
use Rattle.model.specs.declared.Flags.{Flags}
use Rattle.model.specs.declared.Position.{Position}
use Rattle.std.specs.Prelude.{if◌then◌else◌, Option, None, Some}
use Rattle.model.specs.Lists.{to_front}
use Rattle.model.specs.Refusals.{refusal}
use Rattle.model.specs.Session.{Stack, State, stack, on_screens, set_no_history, task_at, front, front_screen, count}
use Rattle.model.specs.Flags.{flags_of}
use Rattle.model.specs.Search.{place_of}
use Rattle.model.specs.Rules.{is_r7, choose}
use Rattle.model.specs.Effects.{move, changed, change_front, put_new, carry_out}
use Rattle.model.specs.Counts.{created_in, created_by}
use Rattle.model.specs.Calls.{chosen, effect_in, mark_front, start_marked, finished_at, caller_closes, started_with, no_history_after, started, start_checks, closed_marked}
use Rattle.model.specs.Marks.{mark_after, closed_at}
use Rattle.model.proofs.Sessions.{with_tasks}
use Rattle.model.proofs.ListLaws.{to_front-length, on_first-length}
use Rattle.model.proofs.Sound.{NoHistorySound, Sound}
use Rattle.model.proofs.Close.{no-mark, close-sound}
use Rattle.model.proofs.Effects.{Suits, Ready}
use Rattle.model.proofs.Marks.{close_at, AbleIn, Able, finished-carry, closed-carry}
use Rattle.model.proofs.MarkStands.{Stands, mark-stands, created-stays}
use Rattle.model.proofs.Start.{started_by, choose-ready, start-accepted, carried-sound}

module _ (tb : List ℕ) (b : ℕ) where
  suits-able : (c : Change) (t : Stack ℕ) → Suits tb b c t → AbleIn c b t.screens
  suits-able Change.Keep t h = tt
  suits-able Change.Renew t h = tt
  suits-able Change.Clear t h = h.1
  suits-able Change.Lift t h = h.1
  suits-able Change.Push t h = tt

  first-able : (c : Change) (p : ℕ) (s : State ℕ) → 1 ≤ p → Suits tb b c (task_at s.tasks p) → p ≤ 1 → AbleIn c b (front s).screens
  first-able c zero s l h g = absurd (not-suc-le-zero l)
  first-able c (suc zero) s l h g = suits-able c (front s) h
  first-able c (suc (suc p)) s l h g = absurd (omega arith)

  ready-able : (d : Effect) (p : ℕ) (s : State ℕ) → Ready tb b s d p → Able d p b s
  ready-able Effect.New p s h = tt
  ready-able (Effect.InFront c) p s h = suits-able c (front s) h.1
  ready-able (Effect.MoveAnd c) p s h = (h.0.1, first-able c p s h.0.0 h.1)

-- the rule chosen, and then the removal
abbrev pub finished_by : Choice → ℕ → State ℕ → State ℕ
finished_by c b s = finished_at (effect_in s c) (place_of c.found) b s

-- where the front screen from before stands after the start
abbrev pub mark_of : Choice → ℕ → State ℕ → Option Position
mark_of c b s = mark_after (effect_in s c) (place_of c.found) (eqb b (front_screen s))

module _ (tb : List ℕ) (b : ℕ) (f : Flags) where
  -- what is shown of a sound session that is not empty, and of the choice that a start makes in it
  module _ (P : State ℕ → Type 0)
      (shown : (o : State ℕ) (r x : ℕ) (xs : List ℕ) (ts : List (Stack ℕ))
      → let s = with_tasks o (stack r (x ∷ xs) ∷ ts) in
      let c = choose tb s b f in
      Able (effect_in s c) (place_of c.found) b s → P s) where
    in-task : (o : State ℕ) (r : ℕ) (xs : List ℕ) (ts : List (Stack ℕ)) → 1 ≤ length xs → Sound tb (with_tasks o (stack r xs ∷ ts))
        → P (with_tasks o (stack r xs ∷ ts))
    in-task o r [] ts l h = absurd (not-suc-le-zero l)
    in-task o r (x ∷ xs) ts l h =
        let s = with_tasks o (stack r (x ∷ xs) ∷ ts) in
        let c = choose tb s b f in
        shown o r x xs ts (ready-able tb b (effect_in s c) (place_of c.found) s (choose-ready tb s b f h (omega arith)))

    in-session : (o : State ℕ) (ts : List (Stack ℕ)) → Sound tb (with_tasks o ts) → 1 ≤ length ts → P (with_tasks o ts)
    in-session o [] h l = absurd (not-suc-le-zero l)
    in-session o (t ∷ ts) h l = in-task o t.root t.screens ts h.each.0.filled h

  -- a finishing start closes the screen at the mark's position
  pub finished-by : (s : State ℕ) → Sound tb s → 1 ≤ count s
      → finished_by (choose tb s b f) b s ≡ close_at (mark_of (choose tb s b f) b s) (started_by (choose tb s b f) b s)
  finished-by s h l =
      in-session (λ s. finished_by (choose tb s b f) b s ≡ close_at (mark_of (choose tb s b f) b s) (started_by (choose tb s b f) b s))
      (λ o r x xs ts a. finished-carry o b r x xs ts _ _ a) s s.tasks h l

  -- which is one screen, if it stands
  pub finished-closes : (s : State ℕ) → Sound tb s → 1 ≤ count s
      → closed_marked (start_marked (effect_in s (choose tb s b f)) (place_of (choose tb s b f).found) b (mark_front s)) ≡ closed_at (mark_of (choose tb s b f) b s)
  finished-closes s h l =
      in-session (λ s. closed_marked (start_marked (effect_in s (choose tb s b f)) (place_of (choose tb s b f).found) b (mark_front s)) ≡ closed_at (mark_of (choose tb s b f) b s))
      (λ o r x xs ts a. closed-carry o b r x xs ts _ _ a) s s.tasks h l

  -- at which a screen stands
  pub marked-stands : (s : State ℕ) → Sound tb s → 1 ≤ count s → Stands (mark_of (choose tb s b f) b s) (started_by (choose tb s b f) b s)
  marked-stands s h l =
      in-session (λ s. Stands (mark_of (choose tb s b f) b s) (started_by (choose tb s b f) b s))
      (λ o r x xs ts a.
      let v = with_tasks o (stack r (x ∷ xs) ∷ ts) in
      let c = choose tb v b f in
      mark-stands o b r x xs ts (effect_in v c) (place_of c.found) a) s s.tasks h l

  -- what the start pushed or made new stays
  pub created-some : (s : State ℕ) → Sound tb s → 1 ≤ count s → created_by (effect_in s (choose tb s b f)) ≡ 1
      → 1 ≤ count (close_at (mark_of (choose tb s b f) b s) (started_by (choose tb s b f) b s))
  created-some s h l =
      in-session (λ s. created_by (effect_in s (choose tb s b f)) ≡ 1 → 1 ≤ count (close_at (mark_of (choose tb s b f) b s) (started_by (choose tb s b f) b s)))
      (λ o r x xs ts a.
      let v = with_tasks o (stack r (x ∷ xs) ∷ ts) in
      let c = choose tb v b f in
      created-stays o b r x xs ts (effect_in v c) (place_of c.found) a) s s.tasks h l

-- ---- screens created

created-change : (c : Change) → created_in c ≤ 1
unfolding created_in
created-change Change.Keep = omega arith
created-change Change.Renew = omega arith
created-change Change.Clear = omega arith
created-change Change.Lift = omega arith
created-change Change.Push = omega arith

-- an effect creates one screen or none
pub created-effect : (d : Effect) → created_by d ≤ 1
unfolding created_by
created-effect Effect.New = omega arith
created-effect (Effect.InFront c) = created-change c
created-effect (Effect.MoveAnd c) = created-change c

-- ---- soundness

close-at-sound : (tb : List ℕ) (k : Option Position) (s : State ℕ) → Sound tb s → Sound tb (close_at k s)
close-at-sound tb None s h = h
close-at-sound tb (Some p) s h = close-sound tb p.behind p.below s h

-- another mark, where it is one and a task stands
marked-sound : (tb : List ℕ) (h : ℕ) (s : State ℕ) → Sound tb s → NoHistorySound (count s) h → Sound tb (set_no_history h s)
marked-sound tb h s k m =
    record { few = k.few; each = k.each; pairs = k.pairs; place = k.place; edition = k.edition; no_history = m }

some-carried : (b : ℕ) (d : Effect) (p : ℕ) (s : State ℕ) → 1 ≤ count s → 1 ≤ count (carry_out (eqb b) b b d p s)
unfolding carry_out put_new change_front move
some-carried b Effect.New p s l = omega arith
some-carried b (Effect.InFront c) p s l = rw (on_first-length (on_screens (changed (eqb b) b c)) s.tasks) l
some-carried b (Effect.MoveAnd c) p s l =
    rw (on_first-length (on_screens (changed (eqb b) b c)) (to_front (pred p) s.tasks), to_front-length (pred p) s.tasks) l

module _ (tb : List ℕ) (finishing : Bool) (s : State ℕ) (b w : ℕ) (h : Sound tb s) (e : refusal (start_checks tb s b w) ≡ 0) where
  abbrev c : Choice
  c = chosen tb s b w

  abbrev d : Effect
  d = effect_in s (chosen tb s b w)

  some : 1 ≤ count s
  some = (start-accepted tb s b w e).some

  -- the rule, and the removal where the caller closes, without the mark
  pub with-sound : (closes : Bool) → Sound tb (started_with closes d (place_of c.found) b s)
  with-sound true =
      rw (finished-by tb b (flags_of w) s h some) (close-at-sound tb (mark_of c b s) (started_by c b s) (carried-sound tb s b w h e))
  with-sound false = carried-sound tb s b w h e

  with-some : (closes : Bool) → created_by d ≡ 1 → 1 ≤ count (started_with closes d (place_of c.found) b s)
  with-some true k = rw (finished-by tb b (flags_of w) s h some) (created-some tb b (flags_of w) s h some k)
  with-some false k = some-carried b d (place_of c.found) s some

  -- the mark that a start leaves: the caller of a plain start by R7 does not close
  mark-left : NoHistorySound (count (started_with (caller_closes finishing s.no_history c.rule) d (place_of c.found) b s))
      (no_history_after finishing s.no_history (flags_of w).noh c.rule d)
  unfolding caller_closes no_history_after
  mark-left = go finishing (is_r7 c.rule) (flags_of w).noh (created_by d) refl (created-effect d)
    where
      no-caller : (x : Bool) → (x && false) ≡ false
      no-caller true = refl
      no-caller false = refl

      created : (n m : ℕ) → n ≤ 1 → (n ≡ 1 → 1 ≤ m) → n ≤ m
      created zero m l k = zero-le
      created (suc zero) m l k = k refl
      created (suc (suc n)) m l k = absurd (omega arith)

      go : (f r noh : Bool) (n : ℕ) → created_by d ≡ n → n ≤ 1
          → NoHistorySound (count (started_with (f || (eqb s.no_history 1 && not r)) d (place_of c.found) b s)) (if not f && r then s.no_history else if noh then n else 0)
      go false true noh n k l =
          rw (no-caller (eqb s.no_history 1))
          (record { is_mark = h.no_history.is_mark; stands = omega (arith, h.no_history.is_mark, some-carried b d (place_of c.found) s some) })
      go true r true n k l = record { is_mark = l; stands = created n _ l (λ m. with-some true (k ∙ m)) }
      go true r false n k l = no-mark _
      go false false true n k l = record { is_mark = l; stands = created n _ l (λ m. with-some (eqb s.no_history 1 && true) (k ∙ m)) }
      go false false false n k l = no-mark _

pub started-sound : (tb : List ℕ) (finishing : Bool) (s : State ℕ) (b w : ℕ)
    → Sound tb s → refusal (start_checks tb s b w) ≡ 0 → Sound tb (started finishing tb s b w)
unfolding started
started-sound tb finishing s b w h e =
    marked-sound tb _ _ (with-sound tb finishing s b w h e (caller_closes finishing s.no_history (chosen tb s b w).rule)) (mark-left tb finishing s b w h e)
