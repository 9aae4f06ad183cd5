-- Soundness of a stored session over that of its places, cut into the tests that the code makes.
use Rattle.std.specs.Prelude.{ℕ, pred, Bool, not, ◌&&◌, ◌||◌, List, leb, ltb, eqb, length, get_or}
use Rattle.model.specs.Lists.{all}
use Rattle.model.specs.Table.{size_of, main_screen, roots_once}

-- another root than b
unfoldable pub other_root : ℕ → ℕ → Bool
other_root b x = not (eqb b x)

module _ (tb : List ℕ) where
  -- each root is below N
  unfoldable pub roots_known : List ℕ → Bool
  roots_known xs = all (λ x. ltb x (size_of tb)) xs

  -- x and y may be the roots of two tasks: they are no single-task or single-instance screen twice
  unfoldable pub may_be_roots : ℕ → ℕ → Bool
  may_be_roots x y = not (roots_once tb x && eqb x y)

  -- the main place is 0, or that of a root that is the main screen
  unfoldable pub main_root_sound : List ℕ → ℕ → Bool
  main_root_sound xs m = leb m (length xs) && (eqb m 0 || eqb (get_or xs (pred m) 0) (main_screen tb))
