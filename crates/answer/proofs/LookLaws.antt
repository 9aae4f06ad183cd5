-- A look at a stored session, by the front task and the numbers; and that sessions which hold a sound one can be looked at.
use Prim.Native.Nat.{ℕ, zero, suc, ◌≤◌}
use mathlib.Core.Path.{◌≡◌, refl, ◌∙◌, ap}
use mathlib.Core.List.{List, [], ◌∷◌, map}
use native.Mathlib.Nat.{not-suc-le-zero}
use native.Mathlib.Omega.{arith}
use lib.ListN.{length, get_or}
use Rattle.model.specs.declared.Answer.{Answer}
use Rattle.model.specs.Lists.{All}
use Rattle.model.specs.Session.{Stack, State, height, top, most_tasks, most_height}
use Rattle.model.specs.Answers.{look_at, refused}
use Rattle.model.proofs.Logic.{All-at}
use Rattle.model.proofs.Sound.{TaskSound, Sound}
use Rattle.session.specs.declared.Task.{Task}
use Rattle.session.specs.declared.Session.{Session}
use Rattle.session.specs.Stored.{view, view_task, hold, hold_task, pad, no_task, blank_task}
use Rattle.session.proofs.Known.{Sized, Screens32}
use Rattle.session.proofs.StoredLaws.{view-at, view-count}
use Rattle.session.proofs.TaskLaws.{view-height}
use Rattle.answer.specs.Seen.{Seen, answer_of}

-- ---- by the refusal

-- the answer of a call with the refusal k (0 if none), which is a where it is accepted
abbrev pub answer_by : ℕ → Answer → Answer
answer_by zero a = a
answer_by (suc k) a = refused (suc k)

pub answer-refused : (a : Answer) (k : ℕ) → (k ≡ 0 → ⊥) → refused k ≡ answer_by k a
answer-refused a zero n = absurd (n refl)
answer-refused a (suc k) n = refl

pub answer-accepted : (a : Answer) (k : ℕ) → k ≡ 0 → a ≡ answer_by k a
answer-accepted a k e = rw e

-- ---- a look

look-empty : (c : Session) → c.n ≡ 0 → look_at (view c) ≡ answer_of no_task 0 c.main 0 c.edition c.no_history
unfolding view look_at
look-empty c e = rw e

module _ (c : Session) (sizes : Sized c) (seen : Seen c) (n : ℕ) (is : c.n ≡ suc n) where
  abbrev front : Task
  front = get_or c.tasks 0 no_task

  look-filled : look_at (view c) ≡ answer_of front (suc n) c.main 0 c.edition c.no_history
  unfolding look_at view view_task
  look-filled =
      let some : 1 ≤ c.n = omega arith in
      let l : length front.screens ≡ 32 = All-at Screens32 c.tasks 0 no_task (omega (arith, sizes.tasks)) sizes.each in
      let low : front.height ≤ 32 = seen.low some in
      let e = view-at c 0 some in
      let x = ap top e in
      let r = ap (λ (u : Stack ℕ). u.root) e in
      let h = ap (λ (u : Stack ℕ). height u) e ∙ view-height front (omega arith) in
      let k = view-count c sizes seen.few ∙ is in
      λ i.
      record {
        refusal = 0;
        screen = x i;
        root = r i;
        height = h i;
        tasks = k i;
        main = c.main;
        closed = 0;
        edition = c.edition;
        no_history = c.no_history;
      }

module _ (c : Session) (sizes : Sized c) (seen : Seen c) where
  abbrev t : Task
  t = get_or c.tasks 0 no_task

  -- by the front task and the numbers
  pub look-fronted : look_at (view c) ≡ answer_of t c.n c.main 0 c.edition c.no_history
  look-fronted = go c.n refl
    where
      go : (n : ℕ) → c.n ≡ n → look_at (view c) ≡ answer_of t n c.main 0 c.edition c.no_history
      go zero e = look-empty c e
      go (suc n) e = look-filled c sizes seen n e

-- a session that holds a sound one
module _ (tb : List ℕ) where
  front_fits : (ts : List (Stack ℕ)) → All (TaskSound tb) ts → 1 ≤ length ts
      → let t = get_or (pad most_tasks blank_task (map hold_task ts)) 0 no_task in (1 ≤ t.height) × (t.height ≤ most_height)
  unfolding hold_task pad
  front_fits [] h p = absurd (not-suc-le-zero p)
  front_fits (t ∷ ts) h p = (h.0.filled, h.0.low)

  pub sound-seen : (v : State ℕ) → Sound tb v → Seen (hold v)
  unfolding hold
  sound-seen v h =
      record {
        few = h.few;
        filled = λ p. (front_fits v.tasks h.each p).0;
        low = λ p. (front_fits v.tasks h.each p).1;
      }
