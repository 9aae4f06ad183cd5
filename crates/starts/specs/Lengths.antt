-- The lengths that a session's type says.
use Rattle.std.specs.Prelude.{◌≡◌, length}
use Rattle.model.specs.Lists.{All}
use Rattle.session.specs.declared.Session.{Session}
use Rattle.session.specs.declared.Task.{Task}

pub record Lengths (s : Session) : Type 0 where
  pub tasks : length s.tasks ≡ 16
  pub each : All (λ (t : Task). length t.screens ≡ 32) s.tasks
