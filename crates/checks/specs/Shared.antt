-- The checks that all calls share, on a stored session.
use Rattle.std.specs.Prelude.{ℕ, List, []}
use Rattle.model.specs.Refusals.{refusal}
use Rattle.model.specs.Calls.{checks_in}
use Rattle.session.specs.declared.Session.{Session}
use Rattle.session.specs.Stored.{sound_stored}

-- "The checks go in the order 1, 2, 20, then those named for the call." With none named for the call: 1, 2, 20, or 0
unfoldable pub shared_refusal : List ℕ → Session → ℕ
shared_refusal tb c = refusal (checks_in tb (sound_stored tb c) [])
