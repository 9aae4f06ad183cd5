-- The answers to the records of a recording.
use Rattle.std.specs.Prelude.{ℕ, List, [], ◌∷◌}
use Rattle.model.specs.declared.Answer.{Answer}
use Rattle.model.specs.Session.{State}
use Rattle.model.specs.Player.{Record, outcome_of}

-- the answers that the player's lines show, one a record
unfoldable pub answers_to : List ℕ → State ℕ → List Record → List Answer
answers_to tb s [] = []
answers_to tb s (r ∷ rs) = (outcome_of tb s r.request).answer ∷ answers_to tb (outcome_of tb s r.request).session rs
