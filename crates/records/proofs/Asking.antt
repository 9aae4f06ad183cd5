-- The request of the call that a kind asks for is the definition's, and that call is a start where the kind says so.
use Prim.Native.Nat.{ℕ}
use mathlib.Core.Path.{◌≡◌, refl}
use mathlib.Core.Bool.{Bool, true, false}
use lib.Dec.{eqb}
use borrow.Author.Tests.{eqb-true}
use Rattle.model.specs.Player.{is_start, request_of}
use Rattle.records.specs.Records.{asked_by, request_by}
use Rattle.records.proofs.Tags.{is_starting}

-- by the five tests
module _ (b w : ℕ) where
  pub asked-request : (kind : ℕ) → request_by (asked_by kind) b w ≡ request_of kind b w
  unfolding asked_by request_of
  asked-request kind = go (eqb kind 1) (eqb kind 2) (eqb kind 3) (eqb kind 4) (eqb kind 5) refl refl refl refl refl
    where
      go : (t₁ t₂ t₃ t₄ t₅ : Bool) → eqb kind 1 ≡ t₁ → eqb kind 2 ≡ t₂ → eqb kind 3 ≡ t₃ → eqb kind 4 ≡ t₄ → eqb kind 5 ≡ t₅
          → request_by (asked_by kind) b w ≡ request_of kind b w
      go true t₂ t₃ t₄ t₅ e₁ e₂ e₃ e₄ e₅ = rw e₁
      go false true t₃ t₄ t₅ e₁ e₂ e₃ e₄ e₅ = rw (e₁, e₂)
      go false false true t₄ t₅ e₁ e₂ e₃ e₄ e₅ = rw (e₁, e₂, e₃)
      go false false false true t₅ e₁ e₂ e₃ e₄ e₅ = rw (e₁, e₂, e₃, e₄)
      go false false false false true e₁ e₂ e₃ e₄ e₅ = rw (e₁, e₂, e₃, e₄, e₅)
      go false false false false false e₁ e₂ e₃ e₄ e₅ = rw (e₁, e₂, e₃, e₄, e₅)

-- it is a start exactly where the kind says so
pub asked-start : (kind : ℕ) → is_starting (asked_by kind) ≡ is_start kind
unfolding asked_by
asked-start kind = go (eqb kind 1) (eqb kind 2) (eqb kind 3) (eqb kind 4) (eqb kind 5) refl refl refl refl refl
  where
    go : (t₁ t₂ t₃ t₄ t₅ : Bool) → eqb kind 1 ≡ t₁ → eqb kind 2 ≡ t₂ → eqb kind 3 ≡ t₃ → eqb kind 4 ≡ t₄ → eqb kind 5 ≡ t₅
        → is_starting (asked_by kind) ≡ is_start kind
    go true t₂ t₃ t₄ t₅ e₁ e₂ e₃ e₄ e₅ = rw (eqb-true kind 1 e₁)
    go false true t₃ t₄ t₅ e₁ e₂ e₃ e₄ e₅ = rw (eqb-true kind 2 e₂)
    go false false true t₄ t₅ e₁ e₂ e₃ e₄ e₅ = rw (eqb-true kind 3 e₃)
    go false false false true t₅ e₁ e₂ e₃ e₄ e₅ = rw (eqb-true kind 4 e₄)
    go false false false false true e₁ e₂ e₃ e₄ e₅ = rw (eqb-true kind 5 e₅)
    go false false false false false e₁ e₂ e₃ e₄ e₅ = rw (e₁, e₂, e₃, e₄, e₅)
