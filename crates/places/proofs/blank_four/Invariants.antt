-- Invariant: the test so far and the screens from i on, of all four tasks, decide.
use mathlib.Core.Path.{◌≡◌}
use mathlib.Core.Bool.{◌&&◌}
use mathlib.Core.List.{[], ◌∷◌}
use Rattle.model.specs.Lists.{all}
use Rattle.session.specs.Stored.{is_blank}
use Rattle.places.proofs.Fours.{rests}
use Rattle.places.proofs.blank_four.Given as goal

abbrev pub invariant-loop-i : goal.invariant-loop-i
invariant-loop-i l = all is_blank (l.a ∷ l.b ∷ l.c ∷ l.d ∷ []) ≡ (l.zero && rests l.i l.a l.b l.c l.d)
