-- The lengths that were told are those that laws on sessions ask for.
use Rattle.session.specs.declared.Session.{Session}
use Rattle.session.proofs.Known.{Sized}
use Rattle.starts.specs.Lengths.{Lengths}

pub sized_by : {s : Session} → Lengths s → Sized s
sized_by h = record { tasks = h.tasks; each = h.each }
