-- The class decides.
use Rattle.chart_starts.proofs.Values.{class-one, class-two, class-three, class-other}
use Rattle.chart_starts.proofs.group_in.Goals as goal

pub returns-in-1 : goal.returns-in-1
returns-in-1 c = class-one c.args.entry c.in-1.is

pub returns-in-2 : goal.returns-in-2
returns-in-2 c = class-two c.args.entry c.in-2.is

pub returns-in-3 : goal.returns-in-3
returns-in-3 c = class-three c.args.entry c.in-3.is

pub returns-in_default : goal.returns-in_default
returns-in_default c = let rest = c.in_default.in_default-own.rest in class-other c.args.entry rest.0.0.1 rest.0.1 rest.1
