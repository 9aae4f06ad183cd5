-- What notes tell of a list of places.
use Rattle.std.specs.Prelude.{ℕ, zero, suc, ◌+◌, ◌≡◌, Bool, true, false, List, [], ◌∷◌, length, get_or}
use Rattle.notes.specs.declared.Notes.{Notes}

-- the place of something that was met, or none
abbrev pub place_if : Bool → ℕ → List ℕ
place_if true p = p ∷ []
place_if false p = []

-- the first place, where k were met before p and q was the first of them
abbrev pub first_place : ℕ → ℕ → ℕ → ℕ
first_place zero q p = p
first_place (suc k) q p = q

-- notes with another place, where something was met there
abbrev pub noted_at : Notes → Bool → ℕ → Notes
noted_at n false p = n
noted_at n true p = record { count = n.count + 1; first = first_place n.count n.first p }

-- how many places there are, and the first of them; 0 where there is none
pub record Tells (places : List ℕ) (n : Notes) : Type 0 where
  pub count : n.count ≡ length places
  pub first : n.first ≡ get_or places 0 0
