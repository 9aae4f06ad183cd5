-- `effects::lowered` meets its contract. The loop's invariant: the first i places are stored.
use Prim.Native.Nat.{ℕ, ◌-◌}
use mathlib.Core.Path.{◌≡◌}
use mathlib.Core.List.{List, ◌++◌}
use lib.ListN.{take, replicate}
use Rattle.session.specs.Stored.{with_screens}
use Rattle.session.proofs.Storing.{storing}
use Rattle.effects.proofs.lowered.Given as goal

abbrev pub below : ℕ → List ℕ → List ℕ
below h xs = take h xs ++ replicate (32 - h) 0

abbrev pub invariant-loop-i : goal.invariant-loop-i
invariant-loop-i l = l.out ≡ with_screens l.initial.out (storing l.initial.out.screens (below l.h l.initial.out.screens) l.i)
