-- Notes of a list of places, and of a list with one more.
use Prim.Native.Nat.{ℕ, zero, suc, ◌+◌, ◌≤◌}
use mathlib.Core.Path.{◌≡◌, refl, ap}
use mathlib.Core.Bool.{Bool, true, false}
use mathlib.Core.List.{List, [], ◌∷◌, ◌++◌, append-nil}
use native.Mathlib.Omega.{arith}
use lib.ListN.{length, length-append}
use Rattle.notes.specs.declared.Notes.{Notes}
use Rattle.notes.specs.Places.{place_if, first_place, noted_at, Tells}

-- one place at most is noted
pub place-few : (met : Bool) (place : ℕ) → length (place_if met place) ≤ 1
place-few true place = omega arith
place-few false place = omega arith

-- what is noted tells the list with one more
pub tells-noted : (met : Bool) (place : ℕ) (n r : Notes) → r ≡ noted_at n met place
    → (ps : List ℕ) → Tells ps n → Tells (ps ++ place_if met place) r
tells-noted false place n r e ps t = rw (e, append-nil ps) t
tells-noted true place n r e [] t = rw (e, t.count) (record { count = refl; first = refl })
tells-noted true place n r e (p ∷ ps) t =
    let k = t.count in rw (e, k) (record { count = omega (arith, length-append ps (place ∷ [])); first = t.first })

-- by the tests that code makes
pub noted-none : (met : Bool) (place : ℕ) (n : Notes) → met ≡ false → n ≡ noted_at n met place
noted-none met place n e = rw e

pub noted-first : (met : Bool) (place : ℕ) (n : Notes) → met ≡ true → n.count ≡ 0 → record { count = 1; first = place } ≡ noted_at n met place
noted-first met place n e z = rw (e, z)

pub noted_more : (met : Bool) (place : ℕ) (n : Notes) → met ≡ true → (n.count ≡ 0 → ⊥)
    → record { count = n.count + 1; first = n.first } ≡ noted_at n met place
noted_more met place n e z = rw e (ap (λ (q : ℕ). record { count = n.count + 1; first = q }) (go n.count z))
  where
    go : (k : ℕ) → (k ≡ 0 → ⊥) → n.first ≡ first_place k n.first place
    go zero f = absurd (f refl)
    go (suc k) f = refl
