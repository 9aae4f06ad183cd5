-- A record as bytes, and what it asks for: document 01, "records of 6 bytes: kind (1 launch, 2 start, 3 finishing start, 4 Back,
-- 5 look), screen, flag word high byte first".
use Rattle.std.specs.Prelude.{ℕ, ◌+◌, ◌/◌, ◌%◌, Bool, true, false, List, [], ◌∷◌, eqb, ltb, length, get_or, if◌then◌else◌, Option, None, Some}
use Rattle.model.specs.Calls.{launch, start, finishing_start, back, look}
use Rattle.model.specs.Player.{Request, unplayable, asks, word_of}
use Rattle.records.specs.declared.Asked.{Asked}
use Rattle.records.specs.declared.Record.{Record}

-- ---- reading

-- "flag word high byte first", of the record at a place
abbrev pub word_at : List ℕ → ℕ → ℕ
word_at l p = word_of (get_or l (p + 2) 0) (get_or l (p + 3) 0) (get_or l (p + 4) 0) (get_or l (p + 5) 0)

-- the call that a kind asks for
unfoldable pub asked_by : ℕ → Option Asked
asked_by kind =
    if eqb kind 1 then Some Asked.Launch else
    if eqb kind 2 then Some Asked.Start else
    if eqb kind 3 then Some Asked.FinishingStart else
    if eqb kind 4 then Some Asked.Back else
    if eqb kind 5 then Some Asked.Look else None

-- the request for it with a screen byte and a word: launch has its edition from the screen byte
abbrev pub request_by : Option Asked → ℕ → ℕ → Request
request_by (Some Asked.Launch) b w = asks (launch b)
request_by (Some Asked.Start) b w = asks (start b w)
request_by (Some Asked.FinishingStart) b w = asks (finishing_start b w)
request_by (Some Asked.Back) b w = asks back
request_by (Some Asked.Look) b w = asks look
request_by None b w = unplayable

abbrev pub request_for : Record → Request
request_for r = request_by r.asked r.screen r.word

-- the record at a place; a cut one asks for no call
abbrev pub cut_record : List ℕ → ℕ → Record
cut_record l p = record { kind = get_or l p 0; asked = None; screen = 0; word = 0 }

abbrev pub whole_record : List ℕ → ℕ → Record
whole_record l p = record { kind = get_or l p 0; asked = asked_by (get_or l p 0); screen = get_or l (p + 1) 0; word = word_at l p }

abbrev pub record_at : List ℕ → ℕ → Record
record_at l p = if ltb (length l) (p + 6) then cut_record l p else whole_record l p

-- ---- writing

abbrev pub word_bytes : ℕ → List ℕ
word_bytes w = w / 0x1000000 ∷ w / 0x10000 % 0x100 ∷ w / 0x100 % 0x100 ∷ w % 0x100 ∷ []

abbrev pub bytes_of_record : ℕ → ℕ → ℕ → List ℕ
bytes_of_record kind b w = kind ∷ b ∷ word_bytes w
