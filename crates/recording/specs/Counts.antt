-- What a list of calls did: the session after it, and the screens that it created and closed (document 02, request 2).
use Rattle.std.specs.Prelude.{ℕ, ◌≡◌, List, [], ◌∷◌}
use Rattle.model.specs.Session.{State}
use Rattle.model.specs.Answers.{refused}
use Rattle.model.specs.Calls.{Call, call}
use Rattle.model.specs.Histories.{after, along, by_rules}
use Rattle.model.specs.Balance.{created, created_along, closed_along, standing_after}
use Rattle.session.specs.declared.Session.{Session}
use Rattle.session.specs.Stored.{view}
use Rattle.calls.specs.declared.Reply.{Reply}
use Rattle.calls.specs.StoredCalls.{reply, call_stored, by_program}
use Rattle.recording.specs.declared.Counted.{Counted}
use Rattle.recording.specs.declared.Screens.{Screens}

-- what the call of a record gives; one of an unknown kind is no call, and is answered as by the player
abbrev pub reply_to : List ℕ → Session → List Call → Reply
reply_to tb c [] = reply c (refused 9)
reply_to tb c (k ∷ ks) = call_stored tb c k

-- the screens that the call of a record creates
abbrev pub created_for : List ℕ → State ℕ → List Call → ℕ
created_for tb s ks = along (by_rules tb) (created tb) s ks

-- the closed number of a call's answer
abbrev pub closing : List ℕ → State ℕ → Call → ℕ
closing tb s c = (call tb s c).answer.closed

-- the list ks, made from the session c
pub record Counts (tb : List ℕ) (c : Session) (ks : List Call) (r : Counted) : Type 0 where
  pub session : r.session ≡ after (by_program tb) c ks
  pub created : r.created ≡ along (by_rules tb) (created tb) (view c) ks
  pub closed : r.closed ≡ along (by_rules tb) (closing tb) (view c) ks

-- each number is its definition, along the list from a fresh session
pub record CountsScreens (tb : List ℕ) (ks : List Call) (r : Screens) : Type 0 where
  pub created : r.created ≡ created_along tb ks
  pub closed : r.closed ≡ closed_along tb ks
  pub standing : r.standing ≡ standing_after tb ks
