-- The two bytes that close an image: where an edition's stand among those of all three, and which bytes are an edition's.
use Prim.Native.Nat.{ℕ, zero, suc, ◌+◌, ◌-◌, ◌*◌, ◌≤◌}
use mathlib.Core.Path.{◌≡◌, refl, sym, ◌∙◌, ap}
use mathlib.Core.Bool.{Bool, true, false, ◌&&◌, ◌||◌, and-true, and-false}
use mathlib.Core.List.{List, [], ◌∷◌}
use native.Mathlib.Omega.{arith}
use lib.Dec.{eqb}
use lib.ListN.{get_or}
use borrow.Author.Tests.{eqb-true, eqb-false}
use Rattle.model.specs.Session.{is_edition}
use Rattle.model.proofs.Logic.{and-decides, leb-decides, refuted}
use Rattle.model.proofs.Sound.{edition-between}

-- for 6, 7 and 8
abbrev pairs : List ℕ
pairs = 6 ∷ 0x42 ∷ 7 ∷ 0x42 ∷ 8 ∷ 0x42 ∷ []

-- where an edition's stand, as the code counts them
pub pair-at : (e : ℕ) → is_edition e ≡ true → (w : ℕ) → w ≡ e
    → (get_or pairs (2 * (w - 6)) 0 ≡ e) × (get_or pairs (2 * (w - 6) + 1) 0 ≡ 0x42)
pair-at e known w k =
    let b = edition-between e known in
    let p = go (w - 6) (omega arith) in
    (p.0 ∙ omega arith, p.1)
  where
    go : (i : ℕ) → i ≤ 2 → (get_or pairs (2 * i) 0 ≡ 6 + i) × (get_or pairs (2 * i + 1) 0 ≡ 0x42)
    go zero l = (refl, refl)
    go (suc zero) l = (refl, refl)
    go (suc (suc zero)) l = (refl, refl)
    go (suc (suc (suc i))) l = absurd (omega arith)

-- one of the three
is_one : (e : ℕ) → (eqb e 6 || (eqb e 7 || eqb e 8)) ≡ is_edition e
unfolding is_edition
is_one e = go (eqb e 6) (eqb e 7) (eqb e 8) refl refl refl
  where
    go : (a b c : Bool) → eqb e 6 ≡ a → eqb e 7 ≡ b → eqb e 8 ≡ c → (a || (b || c)) ≡ is_edition e
    go true b c p q r = sym (ap is_edition (eqb-true e 6 p))
    go false true c p q r = sym (ap is_edition (eqb-true e 7 q))
    go false false true p q r = sym (ap is_edition (eqb-true e 8 r))
    go false false false p q r =
        sym (refuted (is_edition e) (and-decides (leb-decides 6 e) (leb-decides e 8))
        (λ h. omega (arith, eqb-false e 6 p, eqb-false e 7 q, eqb-false e 8 r)))

-- two bytes are one of the pairs: the first an edition, and the last as in each pair
pub one-pair : (e : ℕ) (last : Bool) → ((eqb e 6 && last) || ((eqb e 7 && last) || (eqb e 8 && last))) ≡ (is_edition e && last)
one-pair e true = simp and-true (is_one e)
one-pair e false = simp and-false
