-- Where the answers of both sessions differ, or both sessions are empty: what the difference found says of the sessions that
-- it began with.
use Prim.Native.Nat.{ℕ, zero, suc, ◌≤◌}
use mathlib.Core.Path.{◌≡◌, refl, sym, ◌∙◌, ap}
use mathlib.Core.Logic.{◌↔◌}
use mathlib.Core.Bool.{Bool, true, false, not, true≢false, false≢true}
use mathlib.Core.List.{List, [], ◌∷◌, ◌++◌, head-eq_of_cons-eq, tail-eq_of_cons-eq}
use native.Mathlib.Omega.{arith}
use lib.ListN.{replicate}
use Rattle.model.specs.declared.Answer.{Answer}
use Rattle.model.specs.Lists.{All}
use Rattle.model.specs.Session.{State, screens_in}
use Rattle.model.specs.Answers.{look_at}
use Rattle.model.specs.Calls.{back}
use Rattle.model.specs.Histories.{answers, IsLater, AnswerAlike, by_rules}
use Rattle.model.proofs.Sound.{Sound}
use Rattle.model.proofs.Backs.{screens-most, empty-both}
use Rattle.session.specs.declared.Session.{Session}
use Rattle.session.specs.Stored.{view}
use Rattle.difference.specs.declared.Difference.{Difference}
use Rattle.difference.specs.Apart.{look_then_backs, most_backs, FirstApart}
use Rattle.difference.proofs.Reached.{Both, reached-count, both-look}

backs-later : (k : ℕ) → All IsLater (replicate k back)
backs-later zero = tt
backs-later (suc k) = (tt, backs-later k)

last-same : (xs : List Answer) (a b : Answer) → xs ++ a ∷ [] ≡ xs ++ b ∷ [] → a ≡ b
last-same [] a b e = head-eq_of_cons-eq e
last-same (x ∷ xs) a b e = last-same xs a b (tail-eq_of_cons-eq e)

-- the four clauses of the contract
abbrev pub Told : List ℕ → State ℕ → State ℕ → Difference → Type 0
Told tb s t d =
    FirstApart tb s t d × (((d.found ≡ false) ↔ (s ≡ t)) × (((d.found ≡ false) ↔ AnswerAlike (by_rules tb) s t) × (d.backs ≤ most_backs)))

module _ {tb : List ℕ} {s t : State ℕ} {k : ℕ} {c d : Session} {a b : Answer} (r : Both tb s t k c d a b) where
  pub backs-most : Sound tb s → k ≤ most_backs
  backs-most h = let e = r.screens in let l = screens-most tb s h in omega arith

  module _ (h : Sound tb s) where
    -- the difference found here, by whether the answers agree
    abbrev pub here : Bool → Difference
    here agreed = record { found = not agreed; backs = k; first = a; second = b }

    told_same : a ≡ b → c.n ≡ 0 → Told tb s t (here true)
    unfolding screens_in
    told_same e n =
        let f = empty-both tb (view c) (view d) r.one.sound r.other.sound (both-look r e) (sym (reached-count r.one) ∙ n) in
        let same = r.same (f.0 ∙ sym f.1) in
        let z : screens_in (view c).tasks ≡ 0 = ap (λ (u : State ℕ). screens_in u.tasks) f.0 in
        let g = r.screens in (
          record {
            before = r.before;
            first = r.one.answered;
            second = r.other.answered;
            differ = λ x. absurd (false≢true x);
            emptied = λ x. (omega arith, (r.one.shows ∙ ap look_at f.0, r.other.shows ∙ ap look_at f.1));
          },
          ((λ x. same, λ x. refl), ((λ x cs l. ap (λ (u : State ℕ). answers (by_rules tb) u cs) same, λ x. refl), backs-most h)),
        )

    told-apart : (a ≡ b → ⊥) → Told tb s t (here false)
    told-apart n =
        let other : answers (by_rules tb) s (look_then_backs k) ≡ answers (by_rules tb) t (look_then_backs k) → ⊥ =
        λ e. n (last-same r.before a b (sym r.one.answered ∙ e ∙ r.other.answered)) in (
          record {
            before = r.before;
            first = r.one.answered;
            second = r.other.answered;
            differ = λ x. n;
            emptied = λ x. absurd (true≢false x);
          },
          (
            (λ x. absurd (true≢false x), λ e. absurd (other (ap (λ (u : State ℕ). answers (by_rules tb) u (look_then_backs k)) e))),
            ((λ x. absurd (true≢false x), λ f. absurd (other (f (look_then_backs k) (tt, backs-later k)))), backs-most h),
          ),
        )

    pub told : (agreed : Bool) → (agreed ≡ true) ↔ (a ≡ b) → (agreed ≡ true → c.n ≡ 0) → Told tb s t (here agreed)
    told true f n = told_same (f.0 refl) (n refl)
    told false f n = told-apart (λ e. false≢true (f.1 e))
