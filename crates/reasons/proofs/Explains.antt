-- What is told of a start is so, clause by clause.
use Prim.Native.Nat.{ℕ, zero, suc}
use mathlib.Core.Path.{◌≡◌, refl, sym, ◌∙◌, ap}
use mathlib.Core.List.{List}
use native.Mathlib.Omega.{arith}
use Rattle.model.specs.declared.Reason.{Reason}
use Rattle.model.specs.Answers.{look_at}
use Rattle.model.specs.Calls.{start, chosen, own_checks, done}
use Rattle.model.specs.Reasons.{no_reason, reason_by, FitsFirst, IsFoundAt}
use Rattle.model.specs.Affinity.{AffinityZero}
use Rattle.model.specs.Editions.{EditionSeeks}
use Rattle.model.specs.NoHistory.{MarksBy, without_no_history}
use Rattle.model.proofs.AffinityLaws.{affinity-zero}
use Rattle.model.proofs.EditionLaws.{edition-seeks}
use Rattle.model.proofs.NoHistoryLaws.{chosen-six, checks-six, marks-by}
use Rattle.model.proofs.ReasonLaws.{fits-first, found_at, carried-started}
use Rattle.session.specs.declared.Session.{Session}
use Rattle.session.specs.Stored.{view, hold}
use Rattle.session.proofs.StoredLaws.{sound-view}
use Rattle.calls.specs.StoredCalls.{refusal_stored, call_stored, given_by}
use Rattle.checks.proofs.SharedLaws.{checks-ready}
use Rattle.calls.proofs.Settling.{number-own}
use Rattle.reasons.specs.StoredReasons.{why_stored, CarriesOut}

-- all that the contract says of the reason r
abbrev pub Explains : List ℕ → Session → ℕ → ℕ → Reason → Type 0
Explains tb c b w r =
    (r ≡ why_stored tb c b w)
    × ((r.refusal ≡ (call_stored tb c (start b w)).answer.refusal)
    × (((r.refusal ≡ 0 → ⊥) → r ≡ no_reason r.refusal)
    × ((r.refusal ≡ 0 → FitsFirst tb (view c) b w r.rule)
    × ((r.refusal ≡ 0 → IsFoundAt tb (view c) b w r.place r.found)
    × ((r.refusal ≡ 0 → CarriesOut tb c b w r)
    × ((r.refusal ≡ 0 → AffinityZero tb (view c) b r)
    × ((r.refusal ≡ 0 → EditionSeeks tb (view c) b r)
    × ((r.refusal ≡ 0 → MarksBy tb (view c) b w r) × (r ≡ why_stored tb c b (without_no_history w))))))))))

module _ (tb : List ℕ) (c : Session) (b w : ℕ) where
  -- by the number of the start
  carries : refusal_stored tb c (start b w) ≡ 0 → CarriesOut tb c b w (reason_by 0 (chosen tb (view c) b w))
  unfolding call_stored done
  carries e = rw e (ap hold (carried-started tb (view c) b w refl refl))

  number-answered : (n : ℕ) → (reason_by n (chosen tb (view c) b w)).refusal ≡ (given_by tb c (start b w) n).answer.refusal
  unfolding look_at
  number-answered zero = refl
  number-answered (suc n) = refl

  -- the No-History bit cleared
  bit : why_stored tb c b (without_no_history w) ≡ why_stored tb c b w
  unfolding why_stored refusal_stored
  bit = rw (chosen-six tb (view c) b w, checks-six tb (view c) b w)

  marks : refusal_stored tb c (start b w) ≡ 0 → MarksBy tb (view c) b w (reason_by 0 (chosen tb (view c) b w))
  unfolding refusal_stored own_checks
  marks e =
      let h = checks-ready tb c (own_checks tb (view c) (start b w)) e in
      marks-by tb h.good (view c) (sound-view tb c h.sound) b w (sym (number-own tb c (start b w) h) ∙ e)

  pub why-explains : {r : Reason} → r ≡ why_stored tb c b w → Explains tb c b w r
  unfolding why_stored call_stored
  why-explains {r} e = rw e (go (refusal_stored tb c (start b w)) refl)
    where
      go : (n : ℕ) → refusal_stored tb c (start b w) ≡ n → Explains tb c b w (reason_by n (chosen tb (view c) b w))
      go zero q =
          let said = ap (λ (k : ℕ). reason_by k (chosen tb (view c) b w)) (sym q) ∙ sym bit in (
            ap (λ (k : ℕ). reason_by k (chosen tb (view c) b w)) (sym q),
            (
              number-answered 0 ∙ ap (λ (k : ℕ). (given_by tb c (start b w) k).answer.refusal) (sym q),
              (
                λ some. absurd (some refl),
                (
                  λ _. fits-first tb (view c) b w refl,
                  (
                    λ _. found_at tb (view c) b w refl refl,
                    (λ _. carries q, (λ _. affinity-zero tb (view c) b w, (λ _. edition-seeks tb (view c) b w, (λ _. marks q, said)))),
                  ),
                ),
              ),
            ),
          )
      go (suc n) q =
          let said = ap (λ (k : ℕ). reason_by k (chosen tb (view c) b w)) (sym q) ∙ sym bit in (
            ap (λ (k : ℕ). reason_by k (chosen tb (view c) b w)) (sym q),
            (
              number-answered (suc n) ∙ ap (λ (k : ℕ). (given_by tb c (start b w) k).answer.refusal) (sym q),
              (
                λ some. refl,
                (
                  λ z. absurd (omega arith),
                  (
                    λ z. absurd (omega arith),
                    (λ z. absurd (omega arith), (λ z. absurd (omega arith), (λ z. absurd (omega arith), (λ z. absurd (omega arith), said)))),
                  ),
                ),
              ),
            ),
          )
