-- Document 02, request 2: what is promised of the screens created, closed and standing. Its proof is in proofs/Balance.antt.
use Rattle.std.specs.Prelude.{ℕ, zero, suc, ◌-◌, ◌≤◌, ◌≡◌, List}
use Rattle.model.specs.Lists.{sum_of, All}
use Rattle.model.specs.Table.{table_refusal}
use Rattle.model.specs.Session.{State, screens_in, fresh}
use Rattle.model.specs.Calls.{Call, created_of, refusal_of}
use Rattle.model.specs.Histories.{after, answers, along, by_rules, IsNoRestore}

-- a number of a call with the refusal k: 0 where it is refused
abbrev pub if_accepted : ℕ → ℕ → ℕ
if_accepted zero n = n
if_accepted (suc k) n = 0

module _ (tb : List ℕ) where
  -- the screens that a call creates: none where it is refused
  abbrev pub created : State ℕ → Call → ℕ
  created s c = if_accepted (refusal_of tb s c) (created_of tb s c)

  -- along a list of calls from a fresh session; the closed numbers of its answers; and what stands after it
  abbrev pub created_along : List Call → ℕ
  created_along cs = along (by_rules tb) created fresh cs

  abbrev pub closed_along : List Call → ℕ
  closed_along cs = sum_of (λ a. a.closed) (answers (by_rules tb) fresh cs)

  abbrev pub standing_after : List Call → ℕ
  standing_after cs = screens_in (after (by_rules tb) fresh cs).tasks

-- of one list: what was closed had been created, and the rest stands
pub record Balances (tb : List ℕ) (cs : List Call) : Type 0 where
  pub most : closed_along tb cs ≤ created_along tb cs
  pub balance : created_along tb cs - closed_along tb cs ≡ standing_after tb cs

-- "Over any list of calls without restores from a fresh session, screens created less the sum of the closed counts equals the
-- screens standing": under every table that is not refused. It is false of a list with a restore that is accepted: that counts
-- nothing, and the screens of its image stand.
abbrev pub ScreensBalance : List ℕ → Type 0
ScreensBalance tb = table_refusal tb ≡ 0 → (cs : List Call) → All IsNoRestore cs → Balances tb cs
