-- `answer::of_front` meets its contract, by whether a task stands.
use Prim.Native.Nat.{ℕ, zero, suc}
use mathlib.Core.Path.{◌≡◌, refl}
use native.Mathlib.Omega.{arith}
use Rattle.model.specs.Session.{top}
use Rattle.session.specs.declared.Task.{Task}
use Rattle.session.specs.Stored.{view_task}
use Rattle.answer.specs.Seen.{answer_of}
use Rattle.answer.proofs.of_front.Goals as goal

none : (t : Task) (n m x v h : ℕ) → n ≡ 0
    → record { refusal = 0; screen = 0; root = 0; height = 0; tasks = 0; main = m; closed = x; edition = v; no_history = h } ≡ answer_of t n m x v h
none t n m x v h e = rw e

some : (t : Task) (n m x v h : ℕ) → (n ≡ 0 → ⊥) → {b : ℕ} → b ≡ top (view_task t)
    → record { refusal = 0; screen = b; root = t.root; height = t.height; tasks = n; main = m; closed = x; edition = v; no_history = h }
    ≡ answer_of t n m x v h
some t zero m x v h e b = absurd (e refl)
some t (suc n) m x v h e b = rw b

pub returns-then-n-eq0 : goal.returns-then-n-eq0
returns-then-n-eq0 c = let a = c.args in none a.t a.n a.main a.closed a.edition a.no_history c.if-n-eq0.true

pub top-requires : goal.top-requires
top-requires c = let f = c.requires (omega arith) in (omega (arith, f.0), f.1)

pub returns : goal.returns
returns c = let a = c.args in some a.t a.n a.main a.closed a.edition a.no_history c.if-n-eq0.false c.top.ensures
