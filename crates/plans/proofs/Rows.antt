-- A task of the row that pops, and one that goes: what the code leaves of any row.
use Prim.Native.Nat.{ℕ, zero, suc, ◌+◌, ◌<◌}
use mathlib.Core.Path.{◌≡◌, refl, ◌∙◌, ap}
use mathlib.Core.Bool.{Bool, true, false}
use mathlib.Core.List.{List, [], ◌∷◌, ◌++◌}
use native.Mathlib.Omega.{arith}
use lib.ListN.{length, get_or, set, take, drop, drop_of_length-le, length-set}
use lib.Seq.{take_all}
use Rattle.model.specs.Lists.{omit}
use Rattle.session.specs.declared.Session.{Session}
use Rattle.session.specs.declared.Task.{Task}
use Rattle.session.specs.Stored.{no_task, popped}
use Rattle.effects.specs.Rows.{shifted, closed_up}
use Rattle.plans.specs.Puts.{popped_if}
use Rattle.session.proofs.Setters.{with_tasks}

-- all behind the one that goes come nearer
pub closed_all : {A : Type 0} (m k : ℕ) (x : A) (xs : List A) → m + suc k ≡ length xs → closed_up m k x xs ≡ omit m xs ++ x ∷ []
closed_all {A} m k x xs e =
    ap (λ (zs : List A). take m xs ++ take k (drop (suc m) xs) ++ x ∷ zs) (drop_of_length-le xs {i = m + suc k} (omega arith)) ∙ go m xs e
  where
    go : (m : ℕ) (xs : List A) → m + suc k ≡ length xs → take m xs ++ take k (drop (suc m) xs) ++ x ∷ [] ≡ omit m xs ++ x ∷ []
    go m [] e = absurd (omega arith)
    go zero (y ∷ ys) e = ap (λ (us : List A). us ++ x ∷ []) (take_all k ys (omega arith))
    go (suc m) (y ∷ ys) e = ap (λ (us : List A). y ∷ us) (go m ys (omega arith))

-- the second task pops, or not
pub pops-by : (b : Bool) (s : Session) → b ≡ true → {t : Task} → t ≡ popped (get_or s.tasks 1 no_task)
    → with_tasks s (set s.tasks 1 t) ≡ with_tasks s (popped_if b s.tasks)
pops-by b s e f = rw (e, f)

pub stays_by : (b : Bool) (s : Session) → b ≡ false → s ≡ with_tasks s (popped_if b s.tasks)
stays_by b s e = rw e

-- as many tasks as before
shifted-length : (t : Task) (k : ℕ) (ts : List Task) → k < length ts → length (shifted t k ts) ≡ length ts
shifted-length t k [] h = absurd (omega arith)
shifted-length t zero (x ∷ xs) h = refl
shifted-length t (suc k) (x ∷ xs) h = ap suc (shifted-length x k xs (omega arith))

pub popped-length : (b : Bool) (t : Task) (k : ℕ) (ts : List Task) → k < length ts → length (popped_if b (shifted t k ts)) ≡ length ts
popped-length true t k ts h = length-set (shifted t k ts) 1 _ ∙ shifted-length t k ts h
popped-length false t k ts h = shifted-length t k ts h
