-- A plan field by field is the plan.
use Prim.Native.Nat.{ℕ, zero, suc, ◌+◌, ◌≤◌}
use mathlib.Core.Path.{◌≡◌, refl}
use mathlib.Core.Bool.{Bool, true, false}
use native.Mathlib.Omega.{arith}
use lib.Dec.{eqb-suc-zero}
use Rattle.model.specs.declared.Position.{Position}
use Rattle.model.specs.Session.{edition_kept}
use Rattle.model.specs.Marks.{closed_at, stands_at}
use Rattle.session.specs.declared.Task.{Task}
use Rattle.plans.specs.declared.Plan.{Plan}
use Rattle.plans.specs.Plans.{closes, plan_with_closed, gone_by, front_by, pops_by, count_by, main_by}
use Rattle.std.specs.Prelude.{Option, None, Some}

abbrev fields : Option Position → ℕ → Task → ℕ → ℕ → ℕ → ℕ → ℕ → Plan
fields mark g t k n m e x =
    record {
      front = front_by mark g t;
      main = main_by g m;
      shift = k;
      n = count_by g n;
      gone = g;
      pops = pops_by mark g;
      closed = x;
      edition = edition_kept (count_by g n) e;
      no_history = 0;
    }

-- where a task stands
by-fields-there : (j i : ℕ) (one one' : Bool) (t : Task) (k n m e x : ℕ)
    → let mark = stands_at j i in
    fields mark (gone_by mark one one') t k (suc n) m e x ≡ plan_with_closed x (closes mark one one' t k (suc n) m e)
by-fields-there zero i true one' t k n m e x = refl
by-fields-there zero i false one' t k n m e x = refl
by-fields-there (suc j) i one true t k n m e x = rw (eqb-suc-zero j)
by-fields-there (suc j) i one false t k n m e x = rw (eqb-suc-zero j)

by-fields : (mark : Option Position) (one one' : Bool) (t : Task) (k n m e x : ℕ)
    → fields mark (gone_by mark one one') t k (suc n) m e x ≡ plan_with_closed x (closes mark one one' t k (suc n) m e)
by-fields None one one' t k n m e x = refl
by-fields (Some p) one one' t k n m e x = by-fields-there p.behind p.below one one' t k n m e x

-- by what the code has of it
pub plan-by : (mark : Option Position) (one one' : Bool) (t : Task) (k n m e x : ℕ) → 1 ≤ n → {g : ℕ} → g ≡ gone_by mark one one'
    → {u : Task} → u ≡ front_by mark g t → {b : Bool} → b ≡ pops_by mark g → {n' : ℕ} → n' ≡ count_by g n → {m' : ℕ} → m' ≡ main_by g m
    → {x' : ℕ} → x' ≡ x + closed_at mark → {e' : ℕ} → e' ≡ edition_kept n' e
    → record { front = u; main = m'; shift = k; n = n'; gone = g; pops = b; closed = x'; edition = e'; no_history = 0 }
    ≡ plan_with_closed (x + closed_at mark) (closes mark one one' t k n m e)
plan-by mark one one' t k zero m e x l g u b n' m' x' e' = absurd (omega arith)
plan-by mark one one' t k (suc n) m e x l g u b n' m' x' e' =
    rw (e', u, b, n', m', x', g) (by-fields mark one one' t k n m e (x + closed_at mark))
