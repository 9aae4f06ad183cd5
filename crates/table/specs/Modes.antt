-- "0 standard, 1 single-top, 2 single-task, 3 single-instance": the modes, by the bytes that name them.
use Rattle.std.specs.Prelude.{◌≡◌, ℕ, ◌<◌, Option, Some, None, Result, eqb, if◌then◌else◌, MatchResult}
use Rattle.model.specs.Table.{single_top, single_task, single_instance}
use Rattle.table.specs.declared.screen_mode.Mode.{Mode}
use Rattle.table.specs.declared.screen_mode.UnknownMode.{UnknownMode}

abbrev pub mode_named : ℕ → Option Mode
mode_named b =
    if eqb b 0 then Some Mode.Standard else
    if eqb b single_top then Some Mode.SingleTop else
    if eqb b single_task then Some Mode.SingleTask else
    if eqb b single_instance then Some Mode.SingleInstance else None

-- the mode that a byte names, or the byte, above the last of the modes
abbrev pub Decodes : ℕ → Result Mode UnknownMode → Type 0
Decodes b r = MatchResult r (λ m. mode_named b ≡ Some m) (λ e. (e.0 ≡ b) × (single_instance < b))
