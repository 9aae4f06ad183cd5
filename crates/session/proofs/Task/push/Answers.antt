-- `Task::push` meets its contract: by the one of `with_screen`.
use Prim.Native.Nat.{◌+◌}
use mathlib.Core.Path.{ap}
use Rattle.session.specs.declared.Task.{Task}
use Rattle.session.specs.Stored.{with_height}
use Rattle.session.proofs.Task.push.Goals as goal

pub returns : goal.returns
returns c = ap (λ (o : Task). with_height o (c.args.self.height + 1)) c.with_screen-out.ensures
