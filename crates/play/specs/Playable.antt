-- What can be played on.
use Rattle.std.specs.Prelude.{ℕ, ◌≡◌, true, List}
use Rattle.model.specs.Table.{table_refusal}
use Rattle.session.specs.declared.Session.{Session}
use Rattle.session.specs.Stored.{storage_blank, sound_stored}

-- storage beyond what stands in it holds 0; and under a table that is not refused the session is sound
pub record Playable (tb : List ℕ) (c : Session) : Type 0 where
  pub blank : storage_blank c ≡ true
  pub sound : table_refusal tb ≡ 0 → sound_stored tb c ≡ true
