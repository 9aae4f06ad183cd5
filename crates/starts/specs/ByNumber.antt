-- A start's steps where a refusal is a number, 0 for none, and any number may stand for one.
use Rattle.std.specs.Prelude.{ℕ, ◌≡◌, Bool, List, Result, Ok, Err}
use Rattle.model.specs.Refusals.{refusal}
use Rattle.model.specs.Flags.{flags_of}
use Rattle.session.specs.declared.Session.{Session}
use Rattle.session.specs.declared.Task.{Task}
use Rattle.rules.specs.Startable.{Startable}
use Rattle.starts.specs.Checks.{start_entry}
use Rattle.starts.specs.declared.Sought.{Sought}
use Rattle.starts.specs.declared.Decided.{Decided}
use Rattle.starts.specs.Steps.{Seeks, or_else, decided_by, Planned}

-- the number of what is sought or refused
abbrev pub number_in : Result Sought ℕ → ℕ
number_in (Ok x) = 0
number_in (Err n) = n

-- refused by k, the refusal of the checks before its own, or by its own, and then not by 0, or sought
pub record SoughtByNumber (tb : List ℕ) (c : Session) (b w k : ℕ) (x : Result Sought ℕ) : Type 0 where
  pub refusal : number_in x ≡ or_else k (refusal (start_entry tb c.n b w))
  pub some : x ≡ Err 0 → ⊥
  pub seeks : (y : Sought) → x ≡ Ok y → Startable tb c b × Seeks tb c b (flags_of w) y

-- by what was sought, or refused already
abbrev pub decided_in : Bool → ℕ → Session → Task → Result Sought ℕ → Result Decided ℕ
decided_in finishing b c t (Ok x) = decided_by finishing b c t x
decided_in finishing b c t (Err n) = Err n

-- what deciding relies on
abbrev pub PlannedIn : Session → ℕ → Task → Result Sought ℕ → Type 0
PlannedIn c b t (Ok x) = Planned c b t x
PlannedIn c b t (Err n) = Unit {0}
