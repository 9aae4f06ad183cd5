-- What was sought and what is decided, by the refusals on the way.
use Prim.Native.Nat.{ℕ, zero, suc, ◌≤◌, ◌<◌}
use mathlib.Core.Path.{◌≡◌, refl, sym, ◌∙◌, ap}
use mathlib.Core.Bool.{Bool}
use mathlib.Core.List.{List}
use native.Mathlib.Omega.{arith}
use lib.ListN.{length}
use Rattle.model.specs.declared.Flags.{Flags}
use Rattle.std.specs.Prelude.{Ok, Err}
use Rattle.model.specs.declared.Refusal.{Refusal}
use Rattle.model.specs.Refusals.{refusal, refusal_number, unless}
use Rattle.model.proofs.RefusalLaws.{number-some}
use Rattle.model.specs.Session.{most_tasks}
use Rattle.model.specs.Flags.{flags_of}
use Rattle.model.specs.Search.{place_of}
use Rattle.model.specs.Rules.{choose}
use Rattle.model.specs.Effects.{effect_of}
use Rattle.model.specs.Calls.{effect_in}
use Rattle.session.specs.declared.Session.{Session}
use Rattle.session.specs.declared.Task.{Task}
use Rattle.session.specs.Stored.{view, Ready, task_behind}
use Rattle.session.proofs.Known.{Sized}
use Rattle.session.proofs.StoredLaws.{sized-at}
use Rattle.rules.specs.Shows.{index_of, Filled}
use Rattle.rules.specs.Startable.{Startable}
use Rattle.rules.proofs.Tasks.{Shows, counted, index-inside, task-filled, stored-shows, choice-stands}
use Rattle.rules.proofs.Rooms.{room-read}
use Rattle.starts.specs.Checks.{start_entry, room_refusal}
use Rattle.starts.proofs.Entries.{start-entered}
use Rattle.starts.specs.declared.Sought.{Sought}
use Rattle.starts.specs.Steps.{Seeks, or_else, SoughtFrom, rule_sought, room_sought, chosen_by, chosen_stored, task_for, Plannable, accepted_by, decided_by, decided_stored, Planned}

-- ---- the first of two refusals

pub or-second : (k j : ℕ) → k ≡ 0 → j ≡ or_else k j
or-second k j e = rw e

-- neither refuses
pub or-none : (k j : ℕ) → or_else k j ≡ 0 → (k ≡ 0) × (j ≡ 0)
or-none zero j e = (refl, e)
or-none (suc k) j e = absurd (omega arith)

-- ---- sought

module _ (tb : List ℕ) (c : Session) (b w k : ℕ) where
  pub entered-startable : Ready tb c → refusal (start_entry tb c.n b w) ≡ 0 → Startable tb c b
  entered-startable h e = let i = start-entered tb c.n b w e in record { ready = h; known = i.known; some = i.some }

  pub sought-found : k ≡ 0 → refusal (start_entry tb c.n b w) ≡ 0 → Startable tb c b → {x : Sought} → Seeks tb c b (flags_of w) x
      → SoughtFrom tb c b w k (Ok x)
  sought-found z e h {x} s =
      record { refusal = sym e ∙ or-second k _ z; seeks = λ y q. let p : x ≡ y = cc in (h, rw (← p) s) }

  -- the index is one of the storage
  pub sought-inside : Sized c → {x : Sought} → SoughtFrom tb c b w k (Ok x) → x.index < most_tasks
  sought-inside z {x} s =
      let (h, q) = s.seeks x refl in
      index-inside tb c b z h x.index (rw (q.index, q.found) (choice-stands tb c b z h (flags_of w)))

  -- and deciding may go on
  pub sought-planned : {x : Sought} → SoughtFrom tb c b w k (Ok x) → {t : Task} → t ≡ task_behind c x.index → Planned c b t x
  sought-planned {x} s task = let (h, q) = s.seeks x refl in (tb, (flags_of w, (h, (q, task))))

-- ---- refused, or made

module _ {A : Type 0} where
  pub unless-refused : (k : ℕ) (x : A) → (k ≡ 0 → ⊥) → Err k ≡ unless k x
  unless-refused zero x n = absurd (n refl)
  unless-refused (suc k) x n = refl

  pub unless-passed : (k : ℕ) (x : A) → k ≡ 0 → Ok x ≡ unless k x
  unless-passed k x e = rw e

  -- the number of what is refused
  pub unless-number : (k : ℕ) (y : A) {n : ℕ} → Err n ≡ unless k y → n ≡ k
  unless-number zero y e = cc
  unless-number (suc k) y e = cc

  -- what is made where none refuses
  pub unless-made : (k : ℕ) {x y : A} → Ok x ≡ unless k y → (k ≡ 0) × (x ≡ y)
  unless-made zero e = (refl, cc)
  unless-made (suc k) e = cc

-- ---- by what was sought

module _ {tb : List ℕ} {c : Session} {b : ℕ} {f : Flags} (z : Sized c) (h : Startable tb c b) {x : Sought} (s : Seeks tb c b f x)
    {t : Task} (task : t ≡ task_behind c x.index) where
  -- a task stands at the index
  stands : x.index < c.n
  stands = rw (s.index, s.found) (choice-stands tb c b z h f)

  pub sought-filled : Filled t
  sought-filled = rw task (task-filled tb c b z h x.index stands)

  sought-rule : rule_sought b c t x ≡ (choose tb (view c) b f).rule
  sought-rule = rw task s.rule

  sought-effect : (chosen_by b c t x).effect ≡ effect_in (view c) (choose tb (view c) b f)
  unfolding view
  sought-effect = ap (effect_of c.edition c.main) sought-rule

  shows : Shows (view c) (choose tb (view c) b f).found t
  shows = rw (task, ← s.found) (stored-shows c x.found s.index stands)

  low : t.height ≤ length t.screens
  low = let l : length (task_behind c x.index).screens ≡ 32 = sized-at c z x.index (index-inside tb c b z h x.index stands) in
      let e : length t.screens ≡ 32 = rw task l in let g = sought-filled in omega arith

  -- what is chosen is what the definition chooses
  pub sought-chosen : chosen_by b c t x ≡ chosen_stored tb c b f
  sought-chosen =
      let q = sought-rule in
      let d = sought-effect in
      let p = ap place_of s.found in
      λ i. record { rule = q i; effect = d i; place = p i }

  pub sought-room : room_sought b c t x ≡ room_refusal tb c b f
  sought-room = sym (room-read (view c) t low tb b f shows (counted tb c b z h) sought-effect)

  at-found : t ≡ task_for tb c b f
  at-found = task ∙ ap (task_behind c) (s.index ∙ ap index_of s.found)

  pub sought-plannable : room_refusal tb c b f ≡ 0 → Plannable tb c b f t (chosen_by b c t x)
  sought-plannable room = record { chosen = sought-chosen; task = at-found; room = room }

  pub sought-stored : (fin : Bool) → decided_by fin b c t x ≡ decided_stored 0 tb c b f fin
  sought-stored fin =
      let n = s.noh in
      let g = s.found in
      let u = at-found in
      let y = sought-chosen in
      let r = sought-room in
      λ i. unless (r i) (accepted_by fin (n i) (g i) b c (u i) (y i))

-- whatever is sought: decided by it, and by the definition
module _ (tb : List ℕ) (c : Session) (b w k : ℕ) (z : Sized c) (fin : Bool) where
  pub decided-found : {x : Sought} → SoughtFrom tb c b w k (Ok x) → {t : Task} → t ≡ task_behind c x.index
      → decided_by fin b c t x ≡ decided_stored (or_else k (refusal (start_entry tb c.n b w))) tb c b (flags_of w) fin
  decided-found {x} s task =
      let (h, q) = s.seeks x refl in
      sought-stored z h q task fin ∙ ap (λ (n : ℕ). decided_stored n tb c b (flags_of w) fin) s.refusal

  pub decided-refused : {r : Refusal} → SoughtFrom tb c b w k (Err r)
      → Err (refusal_number r) ≡ decided_stored (or_else k (refusal (start_entry tb c.n b w))) tb c b (flags_of w) fin
  decided-refused {r} s = go (refusal_number r) (number-some r) ∙ ap (λ (n : ℕ). decided_stored n tb c b (flags_of w) fin) s.refusal
    where
      go : (n : ℕ) → (n ≡ 0 → ⊥) → Err n ≡ decided_stored n tb c b (flags_of w) fin
      go zero f = absurd (f refl)
      go (suc n) f = refl
