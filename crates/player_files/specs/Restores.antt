-- Records of kind 6, which is the restore of `same` and no record of the player: their numbers.
use Rattle.std.specs.Prelude.{ℕ, suc, ◌+◌, List, [], ◌∷◌, ◌++◌, eqb}
use Rattle.model.specs.Player.{Record}
use Rattle.notes.specs.Places.{place_if}

-- the numbers of those among the records, the first of which has the number i
unfoldable pub restores_from : ℕ → List Record → List ℕ
restores_from i [] = []
restores_from i (r ∷ rs) = place_if (eqb r.kind 6) i ++ restores_from (suc i) rs

-- the same numbers where so many records stand before
unfoldable pub behind : ℕ → List ℕ → List ℕ
behind n [] = []
behind n (q ∷ qs) = (n + q) ∷ behind n qs
