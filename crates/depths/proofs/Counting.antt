-- Every answer to a record can be tallied: it is refused, or no higher than a task is. So the first 65,535 are.
use Prim.Native.Nat.{ℕ, zero, suc, ◌≤◌, min}
use mathlib.Core.Path.{◌≡◌, refl, ◌∙◌, ap}
use mathlib.Core.Bool.{true}
use mathlib.Core.List.{List, [], ◌∷◌}
use native.Mathlib.Omega.{arith}
use lib.ListN.{length}
use borrow.Author.Tests.{le-leb, ne_eqb}
use Rattle.model.specs.declared.Answer.{Answer}
use Rattle.model.specs.Lists.{All}
use Rattle.model.specs.Table.{table_refusal}
use Rattle.model.specs.Session.{Stack, State, on_tasks, front, height, fresh, most_height, sound}
use Rattle.model.specs.Answers.{outcome, refused, settle, look_at}
use Rattle.model.specs.Calls.{own_checks, done, answer_to, refusal_of, call}
use Rattle.model.specs.Player.{Record, Request, unplayable, asks, outcome_of, records_in, table_in, record_bytes}
use Rattle.model.proofs.RefusalLaws.{checks-bad-table}
use Rattle.model.proofs.Sound.{Sound, TaskSound}
use Rattle.model.proofs.Keeps.{fresh-sound, call-sound}
use Rattle.tally.specs.Tallied.{can_be_tallied, most_calls}
use Rattle.tally.proofs.ListLaws.{those-all}
use Rattle.tally.proofs.TallyLaws.{tallied-length}
use Rattle.depths.specs.Depths.{answers_to}
use Rattle.depths.specs.Reports.{answers_in, TalliesFirst}

refused-taken : (n : ℕ) → can_be_tallied (refused (suc n)) ≡ true
refused-taken n = rw (ne_eqb (suc n) 0 (λ e. omega arith))

front_low : (tb : List ℕ) (s : State ℕ) → Sound tb s → height (front s) ≤ most_height
front_low tb s h = go s.tasks h.each
  where
    go : (ts : List (Stack ℕ)) → All (TaskSound tb) ts → height (front (on_tasks (λ _. ts) s)) ≤ most_height
    go [] a = omega arith
    go (t ∷ ts) a = a.0.low

module _ (tb : List ℕ) where
  -- under a good table, on a sound session
  good-taken : table_refusal tb ≡ 0 → (s : State ℕ) → Sound tb s → (q : Request) → can_be_tallied (outcome_of tb s q).answer ≡ true
  unfolding outcome_of call look_at
  good-taken g s h unplayable = refl
  good-taken g s h (asks k) = go (refusal_of tb s k) refl
    where
      go : (n : ℕ) → refusal_of tb s k ≡ n → can_be_tallied (settle outcome (refusal_of tb s k) s (done tb s k) (answer_to tb s k)).answer ≡ true
      go zero e =
          let kept : Sound tb (done tb s k) = rw e at (call-sound tb g s h k) in
          rw e (le-leb (height (front (done tb s k))) most_height (front_low tb (done tb s k) kept))
      go (suc n) e = rw e (refused-taken n)

  -- and under a refused one every call is refused
  bad-taken : (n : ℕ) → table_refusal tb ≡ suc n → (s : State ℕ) (q : Request) → can_be_tallied (outcome_of tb s q).answer ≡ true
  unfolding outcome_of call refusal_of
  bad-taken n e s unplayable = refl
  bad-taken n e s (asks k) =
      ap (λ (m : ℕ). can_be_tallied (settle outcome m s (done tb s k) (answer_to tb s k)).answer) (checks-bad-table tb n (sound tb s) (own_checks tb s k) e)
      ∙ refused-taken n

  next-sound : table_refusal tb ≡ 0 → (s : State ℕ) → Sound tb s → (q : Request) → Sound tb (outcome_of tb s q).session
  unfolding outcome_of
  next-sound g s h unplayable = h
  next-sound g s h (asks k) = call-sound tb g s h k

  abbrev Taken : List Answer → Type 0
  Taken answers = All (λ a. can_be_tallied a ≡ true) answers

  -- one after the other
  answers-taken : (rs : List Record) (s : State ℕ) → Sound tb s → Taken (answers_to tb s rs)
  unfolding answers_to
  answers-taken rs s h = go (table_refusal tb) refl
    where
      good : table_refusal tb ≡ 0 → (qs : List Record) (u : State ℕ) → Sound tb u → Taken (answers_to tb u qs)
      good g [] u k = tt
      good g (r ∷ qs) u k = (good-taken g u k r.request, good g qs (outcome_of tb u r.request).session (next-sound g u k r.request))

      bad : (n : ℕ) → table_refusal tb ≡ suc n → (qs : List Record) (u : State ℕ) → Taken (answers_to tb u qs)
      bad n e [] u = tt
      bad n e (r ∷ qs) u = (bad-taken n e u r.request, bad n e qs (outcome_of tb u r.request).session)

      go : (n : ℕ) → table_refusal tb ≡ n → Taken (answers_to tb s rs)
      go zero e = good e rs s h
      go (suc n) e = bad n e rs s

  answers-length : (rs : List Record) (s : State ℕ) → length (answers_to tb s rs) ≡ length rs
  unfolding answers_to
  answers-length [] s = refl
  answers-length (r ∷ rs) s = ap suc (answers-length rs (outcome_of tb s r.request).session)

pub tallies-first : TalliesFirst
unfolding answers_in
tallies-first input t =
    let tb = table_in input in
    let rs = records_in (record_bytes input) in
    let answers = answers_to tb fresh rs in
    rw t (tallied-length answers
    ∙ ap (λ (l : List Answer). min most_calls (length l)) (those-all can_be_tallied answers (answers-taken tb rs fresh (fresh-sound tb)))
    ∙ ap (min most_calls) (answers-length tb rs fresh))
