-- What the loops do to a row of tasks or of screens.
use Rattle.std.specs.Prelude.{ℕ, suc, ◌+◌, ◌-◌, List, ◌∷◌, ◌++◌, take, drop, replicate}
use Rattle.model.specs.Session.{most_height}
use Rattle.session.specs.declared.Task.{Task}
use Rattle.session.specs.Stored.{with_height, with_screens}

module _ {A : Type 0} where
  -- x comes first, the first k go one place further, and the one behind them is gone
  abbrev pub shifted : A → ℕ → List A → List A
  shifted x k xs = x ∷ take k xs ++ drop (suc k) xs

  -- the one behind m others is gone, the next k come one place nearer, and x stands where the last of them stood
  abbrev pub closed_up : ℕ → ℕ → A → List A → List A
  closed_up m k x xs = take m xs ++ take k (drop (suc m) xs) ++ x ∷ drop (m + suc k) xs

-- the h lowest screens stay, and what stood above is 0
abbrev pub lowest : ℕ → Task → Task
lowest h t = with_height (with_screens t (take h t.screens ++ replicate (most_height - h) 0)) h
