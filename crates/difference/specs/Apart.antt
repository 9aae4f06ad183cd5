-- Two sessions held against each other by a look and then Backs.
use Rattle.std.specs.Prelude.{ℕ, ◌*◌, ◌≡◌, true, false, List, [], ◌∷◌, ◌++◌, replicate}
use Rattle.model.specs.declared.Answer.{Answer}
use Rattle.model.specs.Session.{State, most_tasks, most_height, screens_in, fresh}
use Rattle.model.specs.Answers.{look_at, with_closed}
use Rattle.model.specs.Calls.{Call, back, look}
use Rattle.model.specs.Histories.{answers, by_rules}
use Rattle.difference.specs.declared.Difference.{Difference}

-- a look and then k Backs. "Back: removes the front screen": each answer shows what stands there then.
abbrev pub look_then_backs : ℕ → List Call
look_then_backs k = look ∷ replicate k back

-- each Back removes a screen, and no sound session has more
abbrev pub most_backs : ℕ
most_backs = most_tasks * most_height

-- The answers of the sessions s and t to a look and then Backs agree before the answers in d. "Answers are equal when at
-- each place of that list the two answers agree in every number."
pub record FirstApart (tb : List ℕ) (s t : State ℕ) (d : Difference) : Type 0 where
  pub before : List Answer
  pub first : answers (by_rules tb) s (look_then_backs d.backs) ≡ before ++ d.first ∷ []
  pub second : answers (by_rules tb) t (look_then_backs d.backs) ≡ before ++ d.second ∷ []
  -- these differ
  pub differ : d.found ≡ true → d.first ≡ d.second → ⊥
  -- or every screen is gone from both: "An empty session gives six zeros" and its
  -- edition, but for the screen that the last Back closed
  pub emptied : d.found ≡ false
      → (d.backs ≡ screens_in s.tasks) × ((with_closed 0 d.first ≡ look_at fresh) × (with_closed 0 d.second ≡ look_at fresh))
