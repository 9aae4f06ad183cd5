-- What a search among tasks relies on; nothing of it is checked again.
use Rattle.std.specs.Prelude.{ℕ, ◌<◌, List}
use Rattle.model.specs.Table.{size_of}
use Rattle.session.specs.declared.Session.{Session}
use Rattle.session.specs.Stored.{Ready}

-- a good table, a session that is sound under it, and one of the table's screens
pub record ReadyFor (tb : List ℕ) (c : Session) (b : ℕ) : Type 0 where
  pub ready : Ready tb c
  pub known : b < size_of tb
