-- Lists of calls on stored sessions: from a sound session under a good table, the sessions and the answers along a list are
-- those of document 01's rules.
use Prim.Native.Nat.{ℕ, zero, suc}
use mathlib.Core.Path.{◌≡◌, refl, sym, ◌∙◌, ap}
use mathlib.Core.Logic.{◌↔◌}
use mathlib.Core.Bool.{true}
use mathlib.Core.List.{List}
use Rattle.model.specs.Refusals.{refusal}
use Rattle.model.specs.Table.{table_refusal}
use Rattle.model.specs.Session.{State, fresh}
use Rattle.model.specs.Answers.{Outcome, outcome, settle}
use Rattle.model.specs.Calls.{Call, own_checks, done, answer_to, call}
use Rattle.model.specs.Histories.{after, answers, AnswerAlike, by_rules}
use Rattle.model.proofs.Sound.{Sound}
use Rattle.model.proofs.MachineLaws.{after_kept, run-same}
use Rattle.model.proofs.Keeps.{settled, fresh-sound, call-sound}
use Rattle.session.specs.declared.Session.{Session}
use Rattle.session.specs.Stored.{fresh_session, hold, sound_stored}
use Rattle.session.proofs.StoredLaws.{fresh-held, view-hold, hold-sound}
use Rattle.calls.specs.declared.Reply.{Reply}
use Rattle.calls.specs.StoredCalls.{reply, call_stored, by_program, KeepsSound}
use Rattle.calls.proofs.Settling.{call_settled, call-keeps}

-- what a call gives, stored
abbrev pub stored_outcome : Outcome → Reply
stored_outcome o = reply (hold o.session) o.answer

-- ---- soundness

module _ (tb : List ℕ) where
  -- a sound session stays sound
  pub after-keeps : (ks : List Call) (c : Session) → KeepsSound tb c (after (by_program tb) c ks)
  after-keeps ks c g e = after_kept (by_program tb) (λ c. sound_stored tb c ≡ true) (λ c e k. call-keeps tb c k g e) c e ks

-- ---- by document 01's rules

module _ (tb : List ℕ) (ok : table_refusal tb ≡ 0) where
  -- one call on a session that is held
  pub call-held : (v : State ℕ) → Sound tb v → (k : Call) → call_stored tb (hold v) k ≡ stored_outcome (call tb v k)
  call-held v h k =
      call_settled tb (hold v) k (record { good = ok; sound = hold-sound tb v h })
      ∙ ap (λ (u : State ℕ). settle reply (refusal (own_checks tb u k)) (hold v) (hold (done tb u k)) (answer_to tb u k)) (view-hold v)
      ∙ go (refusal (own_checks tb v k))
      ∙ ap stored_outcome (sym (settled tb ok v h k))
    where
      go : (n : ℕ) → settle reply n (hold v) (hold (done tb v k)) (answer_to tb v k) ≡ stored_outcome (settle outcome n v (done tb v k) (answer_to tb v k))
      go zero = refl
      go (suc n) = refl

  -- and a list: the program's machine goes along with that of the rules
  module _ (v : State ℕ) (h : Sound tb v) (ks : List Call) where
    run-held : ((after (by_program tb) (hold v) ks ≡ hold (after (by_rules tb) v ks)) × Sound tb (after (by_rules tb) v ks))
        × (answers (by_program tb) (hold v) ks ≡ answers (by_rules tb) v ks)
    run-held =
        run-same (by_rules tb) (by_program tb) (λ v c. (c ≡ hold v) × Sound tb v)
        (λ v c l k. (ap (λ (d : Session). (call_stored tb d k).session) l.0 ∙ ap (λ (r : Reply). r.session) (call-held v l.1 k), call-sound tb ok v l.1 k))
        (λ v c l k. ap (λ (d : Session). (call_stored tb d k).answer) l.0 ∙ ap (λ (r : Reply). r.answer) (call-held v l.1 k))
        v (hold v) (refl, h) ks

    pub after-held : after (by_program tb) (hold v) ks ≡ hold (after (by_rules tb) v ks)
    after-held = run-held.0.0

    pub answers-held : answers (by_program tb) (hold v) ks ≡ answers (by_rules tb) v ks
    answers-held = run-held.1

  -- two sessions that are held answer alike exactly where what they hold does
  pub alike-held : (v w : State ℕ) → Sound tb v → Sound tb w → AnswerAlike (by_rules tb) v w ↔ AnswerAlike (by_program tb) (hold v) (hold w)
  alike-held v w h k = (
    λ a ks l. answers-held v h ks ∙ a ks l ∙ sym (answers-held w k ks),
    λ a ks l. sym (answers-held v h ks) ∙ a ks l ∙ answers-held w k ks,
  )

-- ---- from a fresh session

module _ (tb : List ℕ) (ok : table_refusal tb ≡ 0) where
  pub after-fresh : (ks : List Call) → after (by_program tb) fresh_session ks ≡ hold (after (by_rules tb) fresh ks)
  after-fresh ks = rw fresh-held at (after-held tb ok fresh (fresh-sound tb) ks)

  pub answers-fresh : (ks : List Call) → answers (by_program tb) fresh_session ks ≡ answers (by_rules tb) fresh ks
  answers-fresh ks = rw fresh-held at (answers-held tb ok fresh (fresh-sound tb) ks)
