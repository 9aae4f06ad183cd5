-- Save on stored sessions: what the program gives, refused or not, and what the bytes are that it wrote.
use Rattle.std.specs.Prelude.{ℕ, ◌≡◌, true, List}
use Rattle.model.specs.Refusals.{refusal}
use Rattle.model.specs.Answers.{look_at}
use Rattle.model.specs.Image.{image}
use Rattle.model.specs.Calls.{restore, checks_in, Saved, save_checks, settle_save}
use Rattle.session.specs.declared.Session.{Session}
use Rattle.session.specs.Stored.{view, sound_stored}
use Rattle.image_calls.specs.declared.SaveReply.{SaveReply}
use Rattle.calls.specs.StoredCalls.{reply, call_stored}

-- what a save gave: its reply, and the buffer as it left it
abbrev pub saved : SaveReply → List ℕ → Saved
saved r buffer = record { refusal = r.refusal; length = r.length; buffer = buffer }

-- "The checks go in the order 1, 2, 20, then those named for the call."
unfoldable pub save_stored : List ℕ → Session → List ℕ → Saved
save_stored tb c buffer = settle_save (refusal (checks_in tb (sound_stored tb c) (save_checks (view c) buffer))) (view c) buffer

-- "Restore .. brings that session back", from whatever sound session is present
abbrev pub BroughtBack : List ℕ → Session → List ℕ → Type 0
BroughtBack tb c bytes = (t : Session) → sound_stored tb t ≡ true → call_stored tb t (restore bytes) ≡ reply c (look_at (view c))

-- no other sound session has these bytes for its image; that a session has no other image is said by `image`, which gives it one
abbrev pub NoOtherHas : List ℕ → Session → List ℕ → Type 0
NoOtherHas tb c bytes = (t : Session) → sound_stored tb t ≡ true → image (view t) ≡ bytes → view t ≡ view c
