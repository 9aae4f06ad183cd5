-- Demand 2 of document 00: "Restore, under a good table and from a sound present session, accepts exactly the images of
-- sound sessions and brings that session back."
use Rattle.std.specs.Prelude.{ℕ, ◌≡◌, ◌↔◌, true, List, Result, Ok, Err}
use Rattle.model.specs.declared.Refusal.{Refusal}
use Rattle.model.specs.Refusals.{refusal, refusal_number, unless}
use Rattle.model.specs.Session.{State, sound}
use Rattle.model.specs.Image.{image, image_checks, session_in}
use Rattle.session.specs.declared.Session.{Session}
use Rattle.session.specs.Stored.{view, hold, Ready}
use Rattle.starts.specs.Steps.{or_else}
use Rattle.calls.specs.declared.Reply.{Reply}

-- what a restore brings: refused by k, the refusal of the checks before its own, or by 5, 6 or 7, or the session of the image
abbrev pub restored_stored : ℕ → List ℕ → List ℕ → Result Session ℕ
restored_stored k tb bytes = unless (or_else k (refusal (image_checks tb bytes))) (hold (session_in bytes))

-- what was brought to where the session s stands then: refused by its number, or s
module _ {A : Type 0} where
  abbrev pub brought : Result A Refusal → Session → Result Session ℕ
  brought (Ok x) s = Ok s
  brought (Err r) s = Err (refusal_number r)

-- the call was not refused
abbrev pub Accepted : Reply → Type 0
Accepted r = r.answer.refusal ≡ 0

-- the bytes are the image of a sound session
abbrev pub IsImage : List ℕ → List ℕ → Type 0
IsImage tb bytes = (v : State ℕ) × (sound tb v ≡ true) × (image v ≡ bytes)

-- r is what a restore of the bytes gives, on the session c under the table tb: "under a good table and from a sound
-- present session, accepts exactly the images of sound sessions"
abbrev pub AcceptsImages : List ℕ → Session → List ℕ → Reply → Type 0
AcceptsImages tb c bytes r = Ready tb c → Accepted r ↔ IsImage tb bytes

-- "and brings that session back"
abbrev pub BringsBack : List ℕ → Session → List ℕ → Reply → Type 0
BringsBack tb c bytes r = Ready tb c → (v : State ℕ) → sound tb v ≡ true → image v ≡ bytes → r.session ≡ hold v

-- saved again, what was restored gives the same bytes
abbrev pub SavesAgain : List ℕ → Reply → Type 0
SavesAgain bytes r = Accepted r → image (view r.session) ≡ bytes
