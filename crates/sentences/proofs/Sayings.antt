-- Numbers that have no sentence.
use Prim.Native.Nat.{ℕ, zero, suc, ◌≤◌}
use mathlib.Core.Path.{◌≡◌, refl, ap}
use mathlib.Core.List.{[]}
use native.Mathlib.Omega.{arith}
use lib.ListN.{get_or-eq_default}
use borrow.Author.Tests.{ne_eqb}
use Rattle.model.specs.Sentences.{rule_sentences, rule_sentence, refusal_sentence}
use Rattle.model.specs.Texts.{ascii}

-- none of the numbers 1 to k
abbrev Others : ℕ → ℕ → Type 0
Others n zero = Unit {0}
Others n (suc k) = Others n k × (n ≡ suc k → ⊥)

beyond : (n k : ℕ) → Others n k → 1 ≤ n → suc k ≤ n
beyond n zero h some = some
beyond n (suc k) h some = let b = beyond n k h.0 some in omega (arith, h.1)

pub no-rule : (n : ℕ) → Others n 18 → rule_sentence n ≡ []
unfolding rule_sentence
no-rule zero h = refl
no-rule (suc n) h = ap ascii (get_or-eq_default rule_sentences "" {n = suc n} (beyond (suc n) 18 h (omega arith)))

abbrev Not : ℕ → ℕ → Type 0
Not n k = n ≡ k → ⊥

pub no-refusal : (n : ℕ) → Not n 1 → Not n 2 → Not n 3 → Not n 4 → Not n 9 → Not n 20 → Not n 21 → Not n 23 → Not n 24
    → refusal_sentence n ≡ []
unfolding refusal_sentence
no-refusal n n₁ n₂ n₃ n₄ n₉ n₂₀ n₂₁ n₂₃ n₂₄ =
    rw (ne_eqb n 1 n₁, ne_eqb n 2 n₂, ne_eqb n 3 n₃, ne_eqb n 4 n₄, ne_eqb n 9 n₉, ne_eqb n 20 n₂₀, ne_eqb n 21 n₂₁, ne_eqb n 23 n₂₃, ne_eqb n 24 n₂₄)
