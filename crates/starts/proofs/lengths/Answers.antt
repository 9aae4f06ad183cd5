-- By the type.
use Rattle.session.proofs.Known.{Sized, sized}
use Rattle.starts.proofs.lengths.Goals as goal

pub returns : goal.returns
returns c = let z : Sized c.args.s = sized c.args.s _ c.well_formed.0 in record { tasks = z.tasks; each = z.each }
