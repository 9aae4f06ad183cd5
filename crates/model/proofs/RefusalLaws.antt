-- Laws of lists of checks: the first that applies, two lists one after the other, and the checks that every call
-- begins with.
use Prim.Native.Nat.{ℕ, suc, ◌≤◌}
use mathlib.Core.Path.{◌≡◌, refl, ◌∙◌, ap}
use mathlib.Core.Bool.{Bool, true, false, not}
use mathlib.Core.List.{List, [], ◌∷◌, ◌++◌}
use native.Mathlib.Omega.{arith}
use Rattle.std.specs.Prelude.{if◌then◌else◌}
use Rattle.model.specs.Lists.{first, All}
use Rattle.model.specs.declared.Refusal.{Refusal}
use Rattle.model.specs.Refusals.{Check, check, accepted, refusal, refusal_number}
use Rattle.model.specs.Table.{table_checks, table_refusal}
use Rattle.model.specs.Calls.{checks_in}

-- no refusal has the number 0
pub number-some : (r : Refusal) → refusal_number r ≡ 0 → ⊥
number-some Refusal.TableLength e = absurd (omega (arith, e))
number-some Refusal.TableContents e = absurd (omega (arith, e))
number-some Refusal.UnknownScreen e = absurd (omega (arith, e))
number-some Refusal.UnknownFlag e = absurd (omega (arith, e))
number-some Refusal.ImageEnd e = absurd (omega (arith, e))
number-some Refusal.ImageTasks e = absurd (omega (arith, e))
number-some Refusal.ImageUnsound e = absurd (omega (arith, e))
number-some Refusal.BufferShort e = absurd (omega (arith, e))
number-some Refusal.UnknownRecord e = absurd (omega (arith, e))
number-some Refusal.SessionUnsound e = absurd (omega (arith, e))
number-some Refusal.NoTask e = absurd (omega (arith, e))
number-some Refusal.TaskStands e = absurd (omega (arith, e))
number-some Refusal.TasksFull e = absurd (omega (arith, e))
number-some Refusal.TaskFull e = absurd (omega (arith, e))
number-some Refusal.UnknownEdition e = absurd (omega (arith, e))
number-some Refusal.TallyRefused e = absurd (omega (arith, e))
number-some Refusal.SeedZero e = absurd (omega (arith, e))
number-some Refusal.UnknownBits e = absurd (omega (arith, e))
number-some Refusal.StepUnsound e = absurd (omega (arith, e))
number-some Refusal.PanelsFull e = absurd (omega (arith, e))
number-some Refusal.StepsOrder e = absurd (omega (arith, e))

-- no check applies to what is not refused
pub refusal-skip : (k : ℕ) (b : Bool) (cs : List Check) → refusal (check (suc k) b ∷ cs) ≡ 0 → (b ≡ false) × (refusal cs ≡ 0)
unfolding refusal
refusal-skip k true cs e = absurd (omega arith)
refusal-skip k false cs e = (refl, e)

pub refusal-applies : (k : ℕ) (b : Bool) (cs : List Check) → b ≡ true → refusal (check k b ∷ cs) ≡ k
unfolding refusal
refusal-applies k b cs e = ap (λ (x : Bool). (if x then check k b else first accepted (λ c. c.applies) cs).refusal) e

pub refusal-passes : (k : ℕ) (b : Bool) (cs : List Check) → b ≡ false → refusal (check k b ∷ cs) ≡ refusal cs
unfolding refusal
refusal-passes k b cs e = ap (λ (x : Bool). (if x then check k b else first accepted (λ c. c.applies) cs).refusal) e

-- ---- two lists of checks

-- the first list refuses
pub refusal-append-refused : (k : ℕ) (xs ys : List Check) → refusal xs ≡ suc k → refusal (xs ++ ys) ≡ suc k
unfolding refusal
refusal-append-refused k [] ys e = absurd (omega arith)
refusal-append-refused k (x ∷ xs) ys e = go x.applies (refusal-append-refused k xs ys) e
  where
    go : (b : Bool) → (refusal xs ≡ suc k → refusal (xs ++ ys) ≡ suc k)
        → refusal (check x.refusal b ∷ xs) ≡ suc k → refusal (check x.refusal b ∷ xs ++ ys) ≡ suc k
    go true ih e = e
    go false ih e = ih e

-- the first list does not refuse, and none of its checks has the number 0
pub refusal-append-passed : (xs ys : List Check) → All (λ c. 1 ≤ c.refusal) xs → refusal xs ≡ 0 → refusal (xs ++ ys) ≡ refusal ys
unfolding refusal
refusal-append-passed [] ys h e = refl
refusal-append-passed (x ∷ xs) ys h e = go x.applies (refusal-append-passed xs ys h.1) e
  where
    go : (b : Bool) → (refusal xs ≡ 0 → refusal (xs ++ ys) ≡ refusal ys)
        → refusal (check x.refusal b ∷ xs) ≡ 0 → refusal (check x.refusal b ∷ xs ++ ys) ≡ refusal ys
    go true ih e = absurd (omega (arith, h.0, e))
    go false ih e = ih e

-- ---- the checks 1, 2 and 20, which come first

module _ (tb : List ℕ) where
  pub checks-bad-table : (k : ℕ) (is_sound : Bool) (own : List Check)
      → table_refusal tb ≡ suc k → refusal (checks_in tb is_sound own) ≡ suc k
  unfolding table_refusal
  checks-bad-table k is_sound own e = refusal-append-refused k (table_checks tb) (check 20 (not is_sound) ∷ own) e

  after_table : (cs : List Check) → table_refusal tb ≡ 0 → refusal (table_checks tb ++ cs) ≡ refusal cs
  unfolding table_refusal
  after_table cs e = refusal-append-passed (table_checks tb) cs (omega arith, (omega arith, tt)) e

  pub checks-unsound : (own : List Check) → table_refusal tb ≡ 0 → refusal (checks_in tb false own) ≡ 20
  checks-unsound own e = after_table (check 20 true ∷ own) e ∙ refusal-applies 20 true own refl

  -- a good table and a sound session: the call's own checks are left
  pub checks-own : (own : List Check) → table_refusal tb ≡ 0 → refusal (checks_in tb true own) ≡ refusal own
  checks-own own e = after_table (check 20 false ∷ own) e ∙ refusal-passes 20 false own refl
