-- Two sound sessions that answer alike to every list of looks and Backs are equal: with the look before it, what a Back leaves
-- tells the session (Backs). By recursion on a number of screens that is not passed.
use Prim.Native.Nat.{ℕ, zero, suc, ◌≤◌}
use mathlib.Core.Path.{◌≡◌, refl, sym, ◌∙◌, ap}
use mathlib.Core.List.{List, [], ◌∷◌, head-eq_of_cons-eq, tail-eq_of_cons-eq}
use native.Mathlib.Omega.{arith}
use Rattle.model.specs.declared.Answer.{Answer}
use Rattle.model.specs.Table.{table_refusal}
use Rattle.model.specs.Session.{State, count, screens_in}
use Rattle.model.specs.Answers.{look_at}
use Rattle.model.specs.Calls.{Call, launch, start, finishing_start, back, look, restore, backed}
use Rattle.model.specs.Histories.{answers, Alike, IsLater, AnswerAlike, by_rules}
use Rattle.model.proofs.Logic.{All-map}
use Rattle.model.proofs.Sound.{Sound}
use Rattle.model.proofs.Close.{backed-sound}
use Rattle.model.proofs.Backs.{look-gives, back-gives, back-screens, back-tells, empty-both}

-- a look or a Back
abbrev pub IsLookOrBack : Call → Type 0
IsLookOrBack (launch e) = ⊥
IsLookOrBack (start b w) = ⊥
IsLookOrBack (finishing_start b w) = ⊥
IsLookOrBack back = Unit {0}
IsLookOrBack look = Unit {0}
IsLookOrBack (restore bytes) = ⊥

is_later : (c : Call) → IsLookOrBack c → IsLater c
is_later (launch e) h = absurd h
is_later (start b w) h = absurd h
is_later (finishing_start b w) h = absurd h
is_later back h = tt
is_later look h = tt
is_later (restore bytes) h = h

module _ (tb : List ℕ) where
  -- every list of looks and Backs gets equal answers from both
  abbrev pub LookAlike : State ℕ → State ℕ → Type 0
  LookAlike s t = Alike (by_rules tb) IsLookOrBack s t

  -- sessions that answer alike to all later calls do so to looks and Backs
  pub answer-look-alike : (s t : State ℕ) → AnswerAlike (by_rules tb) s t → LookAlike s t
  answer-look-alike s t a cs h = a cs (All-map is_later cs h)

-- two sound sessions that look alike
record Twins (tb : List ℕ) (s t : State ℕ) : Type 0 where
  one : Sound tb s
  other : Sound tb t
  alike : LookAlike tb s t

module _ (tb : List ℕ) (ok : table_refusal tb ≡ 0) where
  -- they give one look
  one-look : (s t : State ℕ) → Twins tb s t → look_at s ≡ look_at t
  unfolding answers
  one-look s t w =
      rw (look-gives tb ok s w.one, look-gives tb ok t w.other) at (head-eq_of_cons-eq (w.alike (look ∷ []) (tt, tt)))

  -- and are twins after a Back
  twins-back : (s t : State ℕ) → 1 ≤ count s → 1 ≤ count t → Twins tb s t → Twins tb (backed s) (backed t)
  unfolding answers
  twins-back s t some some' w =
      record {
        one = backed-sound tb s w.one;
        other = backed-sound tb t w.other;
        alike = λ cs l.
            rw (back-gives tb ok s w.one some, back-gives tb ok t w.other some') at
            (tail-eq_of_cons-eq (w.alike (back ∷ cs) (tt, l)));
      }

  as_many : (s t : State ℕ) → Twins tb s t → count s ≡ count t
  unfolding look_at
  as_many s t w = ap (λ (a : Answer). a.tasks) (one-look s t w)

  -- twins are the same where what Back leaves of them is
  same-behind : (s t : State ℕ) → Twins tb s t → (1 ≤ count s → backed s ≡ backed t) → s ≡ t
  same-behind s t w behind = go (count s) refl
    where
      go : (k : ℕ) → count s ≡ k → s ≡ t
      go zero e = let f = empty-both tb s t w.one w.other (one-look s t w) e in f.0 ∙ sym f.1
      go (suc k) e =
          let some : 1 ≤ count s = omega arith in
          back-tells tb s t w.one w.other (one-look s t w) some (behind some)

  same-within : (n : ℕ) (s t : State ℕ) → screens_in s.tasks ≤ n → Twins tb s t → s ≡ t
  same-within zero s t few w = same-behind s t w (λ some. absurd (omega (arith, back-screens tb s w.one some)))
  same-within (suc n) s t few w =
      same-behind s t w (λ some.
      same-within n (backed s) (backed t) (omega (arith, back-screens tb s w.one some))
      (twins-back s t some (omega (arith, as_many s t w)) w))

  -- looks and Backs tell two sound sessions apart
  pub same : (s t : State ℕ) → Sound tb s → Sound tb t → LookAlike tb s t → s ≡ t
  same s t h k a = same-within (screens_in s.tasks) s t (omega arith) (record { one = h; other = k; alike = a })
