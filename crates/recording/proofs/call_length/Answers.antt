-- The length of a whole record, or all that there is.
use Prim.Native.Nat.{ℕ, ◌+◌}
use mathlib.Core.Path.{◌≡◌, ◌∙◌}
use mathlib.Core.Bool.{true, false}
use mathlib.Core.List.{List}
use lib.ListN.{length}
use Rattle.std.specs.Prelude.{Option, Some, None, MatchOption}
use Rattle.std.specs.Option.{unwrap_or}
use Rattle.recording.specs.CallBytes.{first_image, first_whole}
use Rattle.recording.specs.OneCall.{call_length}
use Rattle.recording.proofs.OneCall.{length_cut, length_whole}
use Rattle.recording.proofs.call_length.Goals as goal

taken : (l : List ℕ) (r : Option ℕ) → MatchOption r (first_whole l ≡ false) (λ n. (first_whole l ≡ true) × (n ≡ 6 + first_image l))
    → unwrap_or r (length l) ≡ call_length l
taken l None h = length_cut l h
taken l (Some n) h = length_whole l h.0 h.1

pub returns : goal.returns
returns c = c.unwrap_or.ensures ∙ taken c.args.calls.now c.whole_length.result c.whole_length.ensures
