-- What a start's plan puts is what the start makes, and it can be put. First the session before the marked screen closes, then
-- where that screen stands: in front, or on top of the second task, to which the front task went.
use Prim.Native.Nat.{ℕ, zero, suc, pred, ◌+◌, ◌≤◌}
use mathlib.Core.Path.{◌≡◌, refl, sym, ◌∙◌, ap}
use mathlib.Core.Bool.{Bool, true, false}
use mathlib.Core.List.{List, [], ◌∷◌}
use native.Mathlib.Omega.{arith}
use lib.Dec.{eqb, leb}
use lib.ListN.{length, get_or}
use borrow.Author.Tests.{lt-leb}
use Rattle.model.specs.declared.Change.{Change}
use Rattle.model.specs.declared.Effect.{Effect}
use Rattle.model.specs.declared.Flags.{Flags}
use Rattle.model.specs.declared.Position.{Position}
use Rattle.std.specs.Prelude.{if◌then◌else◌, Option, None, Some}
use Rattle.model.specs.Session.{State, top, most_height}
use Rattle.model.specs.Search.{place_of}
use Rattle.model.specs.Rules.{choose}
use Rattle.model.specs.Calls.{effect_in, caller_closes, started_with, no_history_after, start_by, closed_by_choice, closed_with, closed_by_start}
use Rattle.model.proofs.Start.{started_by}
use Rattle.model.specs.Marks.{mark_in, closed_at, stands_at}
use Rattle.model.proofs.Marks.{close_at}
use Rattle.model.proofs.MarkStands.{Stands}
use Rattle.session.specs.declared.Session.{Session}
use Rattle.session.specs.declared.Task.{Task}
use Rattle.session.specs.Stored.{view, view_task, hold, no_task, storage_blank, task_behind}
use Rattle.session.proofs.Setters.{with_no_history}
use Rattle.session.proofs.Known.{Sized}
use Rattle.rules.specs.Shows.{index_of}
use Rattle.rules.specs.Startable.{Startable}
use Rattle.effects.specs.Fronted.{shift_of, above_for, front_after, closed_for, count_after, main_after}
use Rattle.effects.specs.Rows.{shifted}
use Rattle.effects.proofs.Fronts.{shift-low}
use Rattle.closing.proofs.Closable.{Markable}
use Rattle.closing.proofs.Closed.{screen-there}
use Rattle.closing.proofs.Marked.{closable, closed-gone}
use Rattle.starts.proofs.Picks.{Picked, picked-carriable, picked-put, picked-sized, picked-markable, picked-finished, picked-closed, picked-few, picked-finish-closed}
use Rattle.plans.specs.declared.Plan.{Plan}
use Rattle.plans.specs.Puts.{Puttable, put_of}
use Rattle.plans.specs.Plans.{closes, Opens}
use Rattle.plans.proofs.Answered.{Uncovers}
use Rattle.plans.proofs.Closes.{NearFront, put_in, plan-closes, plan-puttable, closed-puttable, marked-puttable, behind_of}
use Rattle.starts.specs.declared.Chosen.{Chosen}
use Rattle.starts.specs.Steps.{mark_if, Plannable, plan_shift, plan_mark, plan_next, plan_closed, carrying_plan, start_plan}

-- ---- what a start makes

-- the session that the rule chosen makes where there is room, and then the removal where the caller closes; and the screens that
-- they close
abbrev pub carried : Bool → List ℕ → Session → ℕ → Flags → State ℕ
carried caller tb c b f =
    started_with caller (effect_in (view c) (choose tb (view c) b f)) (place_of (choose tb (view c) b f).found) b (view c)

abbrev pub carried_closed : Bool → List ℕ → Session → ℕ → Flags → ℕ
carried_closed caller tb c b f = closed_with caller (choose tb (view c) b f) b (view c)

-- the session that a finishing start, or a start, makes, and the screens that it closes
abbrev pub made : Bool → List ℕ → Session → ℕ → Flags → State ℕ
made finishing tb c b f = start_by finishing f (choose tb (view c) b f).rule (place_of (choose tb (view c) b f).found) b (view c)

abbrev pub made_closed : Bool → List ℕ → Session → ℕ → Flags → ℕ
made_closed finishing tb c b f = closed_by_start finishing (choose tb (view c) b f) b (view c)

-- ---- where a marked screen may stand

-- in front where no task goes back, or on top of the second task where some do
abbrev Within : Option Position → ℕ → Type 0
Within mark k =
    NearFront mark
    × (((i : ℕ) → mark ≡ stands_at 0 i → k ≡ 0) × ((j i : ℕ) → mark ≡ stands_at (suc j) i → 1 ≤ k))

none : (k : ℕ) → Within None k
none k = (
  tt,
  (
    λ i e. let z : ◌≡◌ {A = ℕ} 0 1 = ap closed_at e in absurd (omega arith),
    λ j i e. let z : ◌≡◌ {A = ℕ} 0 1 = ap closed_at e in absurd (omega arith),
  ),
)

first : (i : ℕ) → Within (stands_at 0 i) 0
first i = (tt, (λ l e. refl, λ j l e. let z : 0 ≡ suc j = ap behind_of e in absurd (omega arith)))

behind : (k : ℕ) → 1 ≤ k → Within (stands_at 1 0) k
behind k some = ((refl, refl), (λ i e. let z : ◌≡◌ {A = ℕ} 1 0 = ap behind_of e in absurd (omega arith), λ j i e. some))

within-change : (c : Change) (is_b : Bool) → Within (mark_in c is_b) 0
within-change Change.Keep is_b = first 0
within-change Change.Renew is_b = none 0
within-change Change.Clear true = first 0
within-change Change.Clear false = none 0
within-change Change.Lift true = first 0
within-change Change.Lift false = first 1
within-change Change.Push is_b = first 1

within : (caller : Bool) (d : Effect) (p n : ℕ) (is_b : Bool) → 1 ≤ n → Within (mark_if caller d p is_b) (shift_of d p n)
within false d p n is_b some = none (shift_of d p n)
within true Effect.New p n is_b some = behind n some
within true (Effect.InFront c) p n is_b some = within-change c is_b
within true (Effect.MoveAnd c) p n is_b some = go p
  where
    go : (p : ℕ) → Within (if leb p 1 then mark_in c is_b else stands_at 1 0) (pred p)
    go zero = within-change c is_b
    go (suc zero) = within-change c is_b
    go (suc (suc p)) = rw (lt-leb (suc (suc p)) 1 (omega arith)) (behind (suc p) (omega arith))

second_at : (k : ℕ) (ts : List Task) → 1 ≤ k → 1 ≤ length ts → (x : Task) → get_or (shifted x k ts) 1 no_task ≡ get_or ts 0 no_task
second_at zero ts l n x = absurd (omega arith)
second_at (suc k) [] l n x = absurd (omega arith)
second_at (suc k) (t ∷ ts) l n x = refl

-- where the front task goes, the marked screen stood in it
uncovers-there : (j i : ℕ) (one one' : Bool) (t : Task) (k n m v : ℕ) → Within (stands_at j i) k → Uncovers (closes (stands_at j i) one one' t k n m v)
uncovers-there zero i true one' t k n m v w e = (w.1.0 i refl, refl)
uncovers-there zero i false one' t k n m v w e = absurd (omega (arith, e))
uncovers-there (suc j) i one true t k n m v w e = absurd (omega (arith, e))
uncovers-there (suc j) i one false t k n m v w e = absurd (omega (arith, e))

uncovers : (mark : Option Position) (one one' : Bool) (t : Task) (k n m v : ℕ) → Within mark k → Uncovers (closes mark one one' t k n m v)
uncovers None one one' t k n m v w e = absurd (omega (arith, e))
uncovers (Some p) one one' t k n m v w e = uncovers-there p.behind p.below one one' t k n m v w e

-- ---- a start for which there is room

module _ {tb : List ℕ} {c : Session} {b : ℕ} {f : Flags} (z : Sized c) (h : Startable tb c b) {t : Task} {x : Chosen}
    (ok : Plannable tb c b f t x) (caller : Bool) where
  abbrev found : ℕ
  found = index_of (choose tb (view c) b f).found

  pub picks : Picked tb c b f found x.effect x.place
  picks = record { index = refl; effect = ap (λ (y : Chosen). y.effect) ok.chosen; place = ap (λ (y : Chosen). y.place) ok.chosen }

  abbrev next : Task
  next = plan_next b c t x

  abbrev shift : ℕ
  shift = plan_shift b c t x

  abbrev mark : Option Position
  mark = plan_mark b c t x caller

  abbrev is_b : Bool
  is_b = eqb b (top (view_task (task_behind c 0)))

  -- the session before the marked screen closes
  abbrev put : Session
  put = put_in c next shift (count_after x.effect c.n) (main_after x.effect x.place c.main) c.edition

  put-started : put ≡ hold (started_by (choose tb (view c) b f) b (view c))
  put-started = picked-put z h ok.room picks (ap (front_after b x.effect) ok.task) refl refl refl

  markable : Markable put x.effect x.place is_b
  markable = picked-markable z h ok.room picks put-started refl

  put-sized : Sized put
  put-sized = picked-sized z h ok.room picks put-started

  put-blank : storage_blank put ≡ true
  put-blank = markable.blank

  put-marked : Stands mark (view put)
  put-marked = go caller
    where
      go : (caller : Bool) → Stands (mark_if caller x.effect x.place is_b) (view put)
      go true = markable.marked
      go false = tt

  put-makes : hold (close_at mark (view put)) ≡ hold (carried caller tb c b f)
  put-makes = go caller
    where
      go : (caller : Bool) → hold (close_at (mark_if caller x.effect x.place is_b) (view put)) ≡ hold (carried caller tb c b f)
      go true = picked-finished z h ok.room picks put-started refl refl
      go false = sym (closed-gone put put-sized put-blank {m = None} refl) ∙ put-started

  -- ---- the mark

  stands : Within mark shift
  stands = within caller x.effect x.place c.n is_b h.some

  -- the test of the second task's height reads the old front task
  same : (j i : ℕ) → mark ≡ stands_at (suc j) i → leb (task_behind put 1).height 1 ≡ leb (task_behind c 0).height 1
  same j i e =
      ap (λ (u : Task). leb u.height 1)
      (second_at shift c.tasks (stands.1.1 j i e) (let l = z.tasks in omega arith) next)

  -- ---- the plan

  abbrev plan : Plan
  plan = carrying_plan b c t x caller

  carrying-put : put_of c plan ≡ with_no_history (hold (carried caller tb c b f)) 0
  carrying-put =
      plan-closes c next shift _ _ _ put-sized put-blank mark stands.0 put-marked _ _ refl same
      ∙ ap (λ (d : Session). with_no_history d 0) put-makes

  carrying-puttable : Puttable c plan
  carrying-puttable =
      closed-puttable c (plan_closed b c t x + closed_at mark)
      (plan-puttable c next shift _ _ _ put-sized put-blank (shift-low c z x.place x.effect (picked-carriable z h ok.room picks))
      mark stands.0 put-marked _ _ same)

  carrying-uncovers : Uncovers plan
  carrying-uncovers = uncovers mark _ _ next shift _ _ _ stands

  -- the screens that the effect closes
  effect-closes : plan_closed b c t x ≡ closed_by_choice (choose tb (view c) b f) b (view c)
  effect-closes = rw ok.task (picked-closed z h ok.room picks)

  pub start-few : plan_closed b c t x ≤ most_height
  start-few = rw ok.task (picked-few z h ok.room picks)

  -- and with the marked one
  carrying-closes : plan.closed ≡ carried_closed caller tb c b f
  carrying-closes = go caller
    where
      go : (caller : Bool) → plan_closed b c t x + closed_at (mark_if caller x.effect x.place is_b) ≡ carried_closed caller tb c b f
      go true = picked-finish-closed z h ok.room picks refl effect-closes
      go false = let e = effect-closes in omega (arith, e)

  pub start-opens : Opens mark next
  start-opens i e = screen-there put put-sized 0 i (closable put 0 i put-blank e put-marked)

-- ---- with the No-History mark

module _ {tb : List ℕ} {c : Session} {b : ℕ} {f : Flags} (z : Sized c) (h : Startable tb c b) {t : Task} {x : Chosen}
    (ok : Plannable tb c b f t x) (fin : Bool) where
  abbrev caller : Bool
  caller = caller_closes fin c.no_history x.rule

  abbrev left : ℕ
  left = no_history_after fin c.no_history f.noh x.rule x.effect

  pub start-put : put_of c (start_plan b c t x fin f.noh) ≡ hold (made fin tb c b f)
  unfolding hold view
  start-put =
      ap (λ (d : Session). with_no_history d left) (carrying-put z h ok caller)
      ∙ ap (λ (y : Chosen).
      with_no_history (hold (carried (caller_closes fin c.no_history y.rule) tb c b f)) (no_history_after fin c.no_history f.noh y.rule y.effect))
      ok.chosen

  pub start-puttable : Puttable c (start_plan b c t x fin f.noh)
  start-puttable = marked-puttable c left (carrying-puttable z h ok caller)

  pub start-uncovers : Uncovers (start_plan b c t x fin f.noh)
  start-uncovers = carrying-uncovers z h ok caller

  pub start-closes : (start_plan b c t x fin f.noh).closed ≡ made_closed fin tb c b f
  unfolding view
  start-closes =
      carrying-closes z h ok caller
      ∙ ap (λ (y : Chosen). carried_closed (caller_closes fin c.no_history y.rule) tb c b f) ok.chosen

-- ---- by what the code has of it

count-some : (d : Effect) (n : ℕ) → 1 ≤ n → 1 ≤ count_after d n
count-some Effect.New n some = omega arith
count-some (Effect.InFront c) n some = some
count-some (Effect.MoveAnd c) n some = some

module _ {tb : List ℕ} {c : Session} {b : ℕ} {f : Flags} (z : Sized c) (h : Startable tb c b) {t : Task} {x : Chosen}
    (ok : Plannable tb c b f t x) (caller : Bool) {a : ℕ} (top-is : a ≡ top (view_task (task_behind c 0)))
    {mark : Option Position} (mark-is : mark ≡ mark_if caller x.effect x.place (eqb b a)) {next : Task} (next-is : next ≡ front_after b x.effect t)
    {n : ℕ} (count-is : n ≡ count_after x.effect c.n) {above : Option ℕ} (above-is : above ≡ above_for b x.effect t)
    {closed : ℕ} (closed_is : closed ≡ closed_for x.effect t.height above) where
  pub closing-requires : Opens mark next × (1 ≤ n) × (closed ≤ most_height)
  closing-requires = (
    rw (mark-is, top-is, next-is) (start-opens z h ok caller),
    rw count-is (count-some x.effect c.n h.some),
    rw (closed_is, above-is) (start-few z h ok caller),
  )
