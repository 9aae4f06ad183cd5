-- The mode is the one that the byte names.
use mathlib.Core.Path.{◌∙◌, ap}
use Rattle.table.specs.Modes.{mode_named}
use Rattle.table.proofs.ModeLaws.{decoded}
use Rattle.table.proofs.launch_mode.Goals as goal

pub returns : goal.returns
returns c =
    c.ok.ensures.value ∙ decoded c.mode.result c.try_from.result c.try_from.ensures ∙ ap mode_named c.mode.ensures
