-- One record of a recording, as the player reads it, played on a stored session.
use Rattle.std.specs.Prelude.{ℕ, List, [], ◌∷◌}
use Rattle.model.specs.Player.{Record, Request, unplayable, records_in}
use Rattle.session.specs.declared.Session.{Session}
use Rattle.calls.specs.declared.Reply.{Reply}
use Rattle.calls.specs.StoredCalls.{reply_stored}

-- what the first of some records asks for; where there is no byte of one, it is cut
abbrev pub first_asked : List Record → Request
first_asked [] = unplayable
first_asked (r ∷ rs) = r.request

-- the first record in the bytes, played: "unknown kind, or a cut record" is refused with 9, before all checks of a call
unfoldable pub played_stored : List ℕ → Session → List ℕ → Reply
played_stored tb c bytes = reply_stored tb c (first_asked (records_in bytes))
