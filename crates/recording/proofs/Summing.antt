-- What was counted along a list from a fresh session, by its definitions.
use Prim.Native.Nat.{ℕ, ◌-◌, ◌≤◌}
use mathlib.Core.Path.{◌≡◌, sym, ◌∙◌, ap}
use mathlib.Core.Bool.{true}
use mathlib.Core.List.{List}
use native.Mathlib.Omega.{arith}
use Rattle.model.specs.Lists.{All}
use Rattle.model.specs.Table.{table_refusal}
use Rattle.model.specs.Session.{State, screens_in, fresh}
use Rattle.model.specs.Calls.{Call}
use Rattle.model.specs.Histories.{after, along, by_rules, IsNoRestore}
use Rattle.model.specs.Balance.{created}
use Rattle.model.proofs.Keeps.{fresh-sound, after-sound}
use Rattle.model.proofs.HistoryLaws.{sum-answers}
use Rattle.model.proofs.Balance.{screens-balance}
use Rattle.session.specs.declared.Session.{Session}
use Rattle.session.specs.Stored.{fresh_session, view, hold, storage_blank}
use Rattle.session.proofs.StoredLaws.{fresh-held, view-hold, hold-sound, sound-blank}
use Rattle.calls.proofs.HistoryLaws.{after-fresh}
use Rattle.recording.specs.declared.Counted.{Counted}
use Rattle.recording.specs.declared.Screens.{Screens}
use Rattle.recording.specs.Counts.{closing, Counts, CountsScreens}

module _ (tb : List ℕ) (ok : table_refusal tb ≡ 0) (ks : List Call) (r : Counted) (c : Counts tb fresh_session ks r) where
  ended : r.session ≡ hold (after (by_rules tb) fresh ks)
  ended = c.session ∙ after-fresh tb ok ks

  pub counted-blank : storage_blank r.session ≡ true
  counted-blank =
      rw ended (sound-blank tb (hold (after (by_rules tb) fresh ks))
      (hold-sound tb (after (by_rules tb) fresh ks) (after-sound tb ok fresh (fresh-sound tb) ks)))

  begun : view fresh_session ≡ fresh
  begun = rw (← fresh-held) (view-hold fresh)

  pub counted-screens : (n : ℕ) → n ≡ screens_in (view r.session).tasks
      → CountsScreens tb ks (record { refusal = 0; created = r.created; closed = r.closed; standing = n })
  counted-screens n e =
      record {
        created = c.created ∙ ap (λ (v : State ℕ). along (by_rules tb) (created tb) v ks) begun;
        closed = c.closed ∙ ap (λ (v : State ℕ). along (by_rules tb) (closing tb) v ks) begun ∙ sym (sum-answers (by_rules tb) (λ a. a.closed) ks fresh);
        standing = e ∙ ap (λ (o : Session). screens_in (view o).tasks) ended
            ∙ ap (λ (v : State ℕ). screens_in v.tasks) (view-hold (after (by_rules tb) fresh ks));
      }

-- the numbers are balanced where no call is a restore
pub counted-balance : (tb : List ℕ) → table_refusal tb ≡ 0 → (ks : List Call) (r : Screens) → CountsScreens tb ks r → All IsNoRestore ks
    → (r.closed ≤ r.created) × (r.created - r.closed ≡ r.standing)
counted-balance tb ok ks r c made =
    let b = screens-balance tb ok ks made in
    (omega (arith, b.most, c.created, c.closed), omega (arith, b.balance, c.created, c.closed, c.standing))
