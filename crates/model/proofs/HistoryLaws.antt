-- Lists of calls on any machine: one behind another, and what each call adds to a measure of the session, along a list.
use Prim.Native.Nat.{ℕ, ◌+◌}
use mathlib.Core.Path.{◌≡◌, refl, ap}
use mathlib.Core.List.{List, [], ◌∷◌, ◌++◌}
use native.Mathlib.Omega.{arith}
use Rattle.model.specs.Lists.{sum_of, All}
use Rattle.model.specs.Histories.{Machine, after, answers, along}

module _ {S C A : Type 0} (m : Machine S C A) where
  pub after-append : (cs ds : List C) (s : S) → after m s (cs ++ ds) ≡ after m (after m s cs) ds
  unfolding after
  after-append [] ds s = refl
  after-append (c ∷ cs) ds s = after-append cs ds (m.next s c)

  pub answers-append : (cs ds : List C) (s : S) → answers m s (cs ++ ds) ≡ answers m s cs ++ answers m (after m s cs) ds
  unfolding after answers
  answers-append [] ds s = refl
  answers-append (c ∷ cs) ds s = ap (λ (l : List A). m.answer s c ∷ l) (answers-append cs ds (m.next s c))

  pub along-append : (weight : S → C → ℕ) (cs ds : List C) (s : S)
      → along m weight s (cs ++ ds) ≡ along m weight s cs + along m weight (after m s cs) ds
  unfolding after along
  along-append weight [] ds s = omega arith
  along-append weight (c ∷ cs) ds s = omega (arith, along-append weight cs ds (m.next s c))

  -- a sum over the answers is one along the list
  pub sum-answers : (weight : A → ℕ) (cs : List C) (s : S)
      → sum_of weight (answers m s cs) ≡ along m (λ u c. weight (m.answer u c)) s cs
  unfolding answers along
  sum-answers weight [] s = refl
  sum-answers weight (c ∷ cs) s = ap (λ (n : ℕ). weight (m.answer s c) + n) (sum-answers weight cs (m.next s c))

  -- where each call changes the measure by what it gains and loses, a list changes it by the sums along it
  module _ (measure : S → ℕ) (gains loses : S → C → ℕ) (Kept : S → Type 0) (Made : C → Type 0)
      (keeps : (s : S) → Kept s → (c : C) → Made c → Kept (m.next s c))
      (steps : (s : S) → Kept s → (c : C) → Made c → measure (m.next s c) + loses s c ≡ measure s + gains s c) where
    pub along-measure : (s : S) → Kept s → (cs : List C) → All Made cs
        → measure (after m s cs) + along m loses s cs ≡ measure s + along m gains s cs
    unfolding after along
    along-measure s h [] made = refl
    along-measure s h (c ∷ cs) made =
        omega (arith, steps s h c made.0, along-measure (m.next s c) (keeps s h c made.0) cs made.1)
