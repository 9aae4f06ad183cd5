-- A start made on the stored session where it stands, by what was read of it: the rule and the task found, the task at
-- its index, the effect and the place.
use Prim.Native.Nat.{ℕ, ◌+◌, ◌≤◌}
use mathlib.Core.Path.{◌≡◌, refl, sym, ◌∙◌, ap}
use mathlib.Core.List.{List}
use lib.Dec.{eqb}
use Rattle.model.specs.declared.Effect.{Effect}
use Rattle.model.specs.declared.Flags.{Flags}
use Rattle.model.specs.declared.Found.{Found}
use Rattle.model.specs.Session.{top, most_height}
use Rattle.model.specs.Search.{place_of}
use Rattle.model.specs.Rules.{choose}
use Rattle.model.specs.Calls.{effect_in, closed_by_choice, closed_by_finish}
use Rattle.model.proofs.Start.{started_by}
use Rattle.model.proofs.Finish.{finished_by}
use Rattle.model.specs.Marks.{mark_after, closed_at}
use Rattle.model.proofs.Marks.{close_at}
use Rattle.session.specs.declared.Session.{Session}
use Rattle.session.specs.declared.Task.{Task}
use Rattle.session.specs.Stored.{view, view_task, hold, task_behind}
use Rattle.session.proofs.Setters.{with_tasks, with_count, with_main}
use Rattle.session.proofs.Known.{Sized}
use Rattle.rules.specs.Startable.{Startable}
use Rattle.rules.specs.Shows.{index_of}
use Rattle.rules.proofs.Tasks.{front-screen}
use Rattle.rules.proofs.Rooms.{FrontUnsought, unsought}
use Rattle.effects.specs.Carriable.{Changeable}
use Rattle.effects.proofs.Carriable.{Carriable}
use Rattle.effects.specs.Fronted.{shift_of, above_for, front_after, closed_for, count_after, main_after}
use Rattle.effects.specs.Rows.{shifted}
use Rattle.effects.proofs.Fronts.{changeable, carried}
use Rattle.effects.proofs.Counts.{closed-effect, closed-few}
use Rattle.closing.proofs.Closable.{Markable}
use Rattle.starts.specs.Checks.{room_refusal}
use Rattle.starts.proofs.StartLaws.{start-carriable, start-sized, start-markable, finish-closes, finish-closed}
use Rattle.std.specs.Prelude.{Option}

-- the screens that an effect closes in the task t
abbrev pub closed_in : ℕ → Effect → Task → ℕ
closed_in b d t = closed_for d t.height (above_for b d t)

-- ---- the task at the index of the task found is the one that the effect changes

module _ (c : Session) (t : Option Found) where
  change-read : (d : Effect) → FrontUnsought t d → Changeable d (task_behind c (shift_of d (place_of t) c.n)) → Changeable d (task_behind c (index_of t))
  change-read Effect.New u h = h
  change-read (Effect.InFront x) u h = rw u h
  change-read (Effect.MoveAnd x) u h = h

  front_read : (b : ℕ) (d : Effect) → FrontUnsought t d
      → front_after b d (task_behind c (index_of t)) ≡ front_after b d (task_behind c (shift_of d (place_of t) c.n))
  front_read b Effect.New u = refl
  front_read b (Effect.InFront x) u = rw u
  front_read b (Effect.MoveAnd x) u = refl

  closed-read : (b : ℕ) (d : Effect) → FrontUnsought t d
      → closed_in b d (task_behind c (index_of t)) ≡ closed_in b d (task_behind c (shift_of d (place_of t) c.n))
  closed-read b Effect.New u = refl
  closed-read b (Effect.InFront x) u = rw u
  closed-read b (Effect.MoveAnd x) u = refl

-- ---- what is read for a start

-- the index of the task found, what is done and the place, by the choice of the definition
pub record Picked (tb : List ℕ) (c : Session) (b : ℕ) (f : Flags) (k : ℕ) (d : Effect) (p : ℕ) : Type 0 where
  pub index : k ≡ index_of (choose tb (view c) b f).found
  pub effect : d ≡ effect_in (view c) (choose tb (view c) b f)
  pub place : p ≡ place_of (choose tb (view c) b f).found

-- where there is room
module _ {tb : List ℕ} {c : Session} {b : ℕ} {f : Flags} (z : Sized c) (h : Startable tb c b) (room : room_refusal tb c b f ≡ 0)
    {k : ℕ} {d : Effect} {p : ℕ} (i : Picked tb c b f k d p) where
  pub picked-carriable : Carriable c d p
  picked-carriable = rw (i.effect, i.place) (start-carriable tb c b f z h room)

  pub picked-changeable : Changeable d (task_behind c k)
  picked-changeable =
      let t = (choose tb (view c) b f).found in
      let n = rw (i.effect, i.place) at (changeable c z p d picked-carriable) in
      rw (i.index, i.effect) (change-read c t (effect_in (view c) (choose tb (view c) b f)) (unsought tb (view c) b f) n)

  -- the session with the effect's task in front
  picked-started : with_main (with_count (with_tasks c (shifted (front_after b d (task_behind c k)) (shift_of d p c.n) c.tasks)) (count_after d c.n)) (main_after d p c.main)
      ≡ hold (started_by (choose tb (view c) b f) b (view c))
  picked-started =
      let t = (choose tb (view c) b f).found in
      let r = effect_in (view c) (choose tb (view c) b f) in
      rw (i.index, i.effect, i.place)
      (ap (λ (x : Task). with_main (with_count (with_tasks c (shifted x (shift_of r (place_of t) c.n) c.tasks)) (count_after r c.n)) (main_after r (place_of t) c.main))
      (front_read c t b r (unsought tb (view c) b f))
      ∙ sym (carried c z (place_of t) b r (start-carriable tb c b f z h room)))

  -- the same, by what the code has of it
  pub picked-put : {v : Task} → v ≡ front_after b d (task_behind c k) → {j : ℕ} → j ≡ shift_of d p c.n → {n : ℕ} → n ≡ count_after d c.n
      → {m : ℕ} → m ≡ main_after d p c.main
      → with_main (with_count (with_tasks c (shifted v j c.tasks)) n) m ≡ hold (started_by (choose tb (view c) b f) b (view c))
  picked-put v j n m = rw (v, j, n, m) picked-started

  pub picked-sized : {u : Session} → u ≡ hold (started_by (choose tb (view c) b f) b (view c)) → Sized u
  picked-sized e = rw e (start-sized tb c b f z h room)

  module _ {u : Session} (e : u ≡ hold (started_by (choose tb (view c) b f) b (view c))) {a : ℕ} (g : a ≡ top (view_task (task_behind c 0))) where
    pub picked-markable : Markable u d p (eqb b a)
    picked-markable = rw (e, i.effect, i.place, g, ← front-screen c h.some) (start-markable tb c b f z h room)

    pub picked-finished : {v : Session} → v ≡ hold (close_at (mark_after d p (eqb b a)) (view u)) → v ≡ hold (finished_by (choose tb (view c) b f) b (view c))
    picked-finished q =
        rw (q, e, i.effect, i.place, g, ← front-screen c h.some) (sym (finish-closes tb c b f z h room))

  -- ---- the screens that close

  closed-moved : closed_in b d (task_behind c k) ≡ closed_in b (effect_in (view c) (choose tb (view c) b f)) (task_behind c (shift_of (effect_in (view c) (choose tb (view c) b f)) (place_of (choose tb (view c) b f).found) c.n))
  closed-moved =
      rw (i.index, i.effect)
      (closed-read c (choose tb (view c) b f).found b (effect_in (view c) (choose tb (view c) b f)) (unsought tb (view c) b f))

  pub picked-closed : closed_in b d (task_behind c k) ≡ closed_by_choice (choose tb (view c) b f) b (view c)
  picked-closed =
      let t = (choose tb (view c) b f).found in
      let r = effect_in (view c) (choose tb (view c) b f) in
      closed-moved ∙ closed-effect c z (place_of t) b r (start-carriable tb c b f z h room)

  pub picked-few : closed_in b d (task_behind c k) ≤ most_height
  picked-few =
      let t = (choose tb (view c) b f).found in
      let r = effect_in (view c) (choose tb (view c) b f) in
      rw closed-moved (closed-few c z (place_of t) b r (start-carriable tb c b f z h room))

  -- by a finishing start
  pub picked-finish-closed : {a : ℕ} → a ≡ top (view_task (task_behind c 0)) → {x : ℕ} → x ≡ closed_by_choice (choose tb (view c) b f) b (view c)
      → x + closed_at (mark_after d p (eqb b a)) ≡ closed_by_finish (choose tb (view c) b f) b (view c)
  picked-finish-closed g e = rw (e, i.effect, i.place, g, ← front-screen c h.some) (sym (finish-closed tb c b f z h room))
