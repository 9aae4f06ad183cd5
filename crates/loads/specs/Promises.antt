-- Document 02, request 8: what is promised of a load.
use Rattle.std.specs.Prelude.{ℕ, ◌+◌, ◌*◌, ◌<◌, ◌≡◌, List, ◌++◌, take, drop}
use Rattle.session.specs.declared.Session.{Session}
use Rattle.navigator.specs.Records.{played_stored}
use Rattle.loads.specs.Loads.{Loaded, fitting, load_of}

-- ---- a load in two parts

-- the bytes of the records that a load made
abbrev pub made : Loaded → List ℕ
made l = take (6 * l.count) l.buffer

-- two loads are one: none is refused, and the records, their count and the last state are the same
pub record Joins (first second whole : Loaded) : Type 0 where
  pub second_accepted : second.refusal ≡ 0
  pub whole_accepted : whole.refusal ≡ 0
  pub count : whole.count ≡ first.count + second.count
  pub state : whole.state ≡ second.state
  pub records : made whole ≡ made first ++ made second

-- "making a then b records, the second run seeded with the state after the first, makes those of a + b": of a load that was not
-- refused, whatever buffer the second run is lent, and every buffer for the whole in which as many records fit as in both. Each
-- of the three may have up to five bytes beyond its records.
abbrev pub GoesOn : List ℕ → ℕ → Loaded → Type 0
GoesOn tb seed first =
    first.refusal ≡ 0 → (second whole : List ℕ) → fitting whole ≡ first.count + fitting second
    → Joins first (load_of tb first.state second) (load_of tb seed whole)

-- ---- what its records draw

-- none of "refusal 3, 4 or 9"
abbrev pub NoneOf349 : ℕ → Type 0
NoneOf349 r = (r ≡ 3 → ⊥) × ((r ≡ 4 → ⊥) × (r ≡ 9 → ⊥))

-- "no record draws refusal 3, 4 or 9": each that was made, played on any stored session, sound or not
abbrev pub NoneDraws : List ℕ → Loaded → Type 0
NoneDraws tb l =
    (i : ℕ) → i < l.count → (c : Session) → NoneOf349 (played_stored tb c (drop (6 * i) l.buffer)).answer.refusal
