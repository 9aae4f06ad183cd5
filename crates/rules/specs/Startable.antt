-- What the choice of a rule relies on; nothing of it is checked again.
use Rattle.std.specs.Prelude.{ℕ, ◌≤◌, ◌<◌, List}
use Rattle.model.specs.Table.{size_of}
use Rattle.session.specs.declared.Session.{Session}
use Rattle.session.specs.Stored.{Ready}

-- a good table, a session that is sound under it and not empty, and one of the table's screens
pub record Startable (tb : List ℕ) (c : Session) (b : ℕ) : Type 0 where
  pub ready : Ready tb c
  pub known : b < size_of tb
  pub some : 1 ≤ c.n
