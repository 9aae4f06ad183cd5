-- What a record gives on a stored session is what the rules give, stored, and the session after it can be played on.
use Prim.Native.Nat.{ℕ, zero, suc}
use mathlib.Core.Path.{◌≡◌, refl, sym, ◌∙◌, ap}
use mathlib.Core.List.{List}
use native.Mathlib.Omega.{arith}
use Rattle.model.specs.Table.{table_refusal}
use Rattle.model.specs.Session.{State, fresh, sound}
use Rattle.model.specs.Answers.{outcome, refused, settle}
use Rattle.model.specs.Calls.{own_checks, done, answer_to, refusal_of, call}
use Rattle.model.specs.Player.{Request, unplayable, asks, outcome_of}
use Rattle.model.proofs.RefusalLaws.{checks-bad-table}
use Rattle.model.proofs.Sound.{Sound}
use Rattle.model.proofs.Keeps.{fresh-sound, call-sound}
use Rattle.session.specs.declared.Session.{Session}
use Rattle.session.specs.Stored.{fresh_session, view, hold, Ready}
use Rattle.session.proofs.Known.{Sized}
use Rattle.session.proofs.StoredLaws.{fresh-held, held, view-hold, hold-sound, hold-blank, hold-sized, sound-fits, sound-view}
use Rattle.calls.specs.declared.Reply.{Reply}
use Rattle.checks.specs.Shared.{shared_refusal}
use Rattle.calls.specs.StoredCalls.{reply, reply_stored}
use Rattle.checks.proofs.SharedLaws.{shared-bad-table, shared-passed}
use Rattle.calls.proofs.Settling.{call-refused}
use Rattle.calls.proofs.HistoryLaws.{stored_outcome, call-held}
use Rattle.play.specs.Playable.{Playable}

-- ---- sessions that can be played on

module _ (tb : List ℕ) (v : State ℕ) (h : Sound tb v) where
  pub sound-playable : Playable tb (hold v)
  sound-playable = record { blank = hold-blank v (sound-fits tb v h); sound = λ _. hold-sound tb v h }

  pub sound-sized : Sized (hold v)
  sound-sized = hold-sized v (sound-fits tb v h)

-- a fresh session can be played on
pub fresh-playable : (tb : List ℕ) → Playable tb fresh_session
fresh-playable tb = rw fresh-held at (sound-playable tb fresh (fresh-sound tb))

pub playable-ready : (tb : List ℕ) (c : Session) → Playable tb c → table_refusal tb ≡ 0 → Ready tb c
playable-ready tb c p e = record { good = e; sound = p.sound e }

-- the table's refusal is the one that all calls share: the session is sound
pub table-shared : (tb : List ℕ) (c : Session) → Playable tb c → table_refusal tb ≡ shared_refusal tb c
table-shared tb c p = go (table_refusal tb) refl
  where
    go : (n : ℕ) → table_refusal tb ≡ n → n ≡ shared_refusal tb c
    go zero e = sym (shared-passed tb c e (p.sound e))
    go (suc n) e = sym (shared-bad-table tb c (suc n) e (λ o. omega arith))

module _ (tb : List ℕ) (c : Session) (z : Sized c) (p : Playable tb c) where
  same : hold (view c) ≡ c
  same = held c z p.blank

  -- under a refused table every call is refused
  bad-stored : (n : ℕ) → table_refusal tb ≡ suc n → (q : Request) → reply_stored tb c q ≡ stored_outcome (outcome_of tb (view c) q)
  unfolding outcome_of call refusal_of
  bad-stored n e unplayable = ap (λ (d : Session). reply d (refused 9)) (sym same)
  bad-stored n e (asks k) =
      call-refused tb c k (suc n) (shared-bad-table tb c (suc n) e (λ o. omega arith)) (λ o. omega arith)
      ∙ ap (λ (d : Session). reply d (refused (suc n))) (sym same)
      ∙ sym (ap (λ (m : ℕ). stored_outcome (settle outcome m (view c) (done tb (view c) k) (answer_to tb (view c) k)))
      (checks-bad-table tb n (sound tb (view c)) (own_checks tb (view c) k) e))

  good-stored : table_refusal tb ≡ 0 → (q : Request) → reply_stored tb c q ≡ stored_outcome (outcome_of tb (view c) q)
  unfolding outcome_of
  good-stored e unplayable = ap (λ (d : Session). reply d (refused 9)) (sym same)
  good-stored e (asks k) = rw same at (call-held tb e (view c) (sound-view tb c (p.sound e)) k)

  pub reply-stored : (q : Request) → reply_stored tb c q ≡ stored_outcome (outcome_of tb (view c) q)
  reply-stored q = go (table_refusal tb) refl
    where
      go : (n : ℕ) → table_refusal tb ≡ n → reply_stored tb c q ≡ stored_outcome (outcome_of tb (view c) q)
      go zero e = good-stored e q
      go (suc n) e = bad-stored n e q

  -- ---- the session after it

  reply-sound : table_refusal tb ≡ 0 → (q : Request) → Sound tb (outcome_of tb (view c) q).session
  unfolding outcome_of
  reply-sound e unplayable = sound-view tb c (p.sound e)
  reply-sound e (asks k) = call-sound tb e (view c) (sound-view tb c (p.sound e)) k

  bad-kept : (n : ℕ) → table_refusal tb ≡ suc n → (q : Request) → (outcome_of tb (view c) q).session ≡ view c
  unfolding outcome_of call refusal_of
  bad-kept n e unplayable = refl
  bad-kept n e (asks k) =
      ap (λ (m : ℕ). (settle outcome m (view c) (done tb (view c) k) (answer_to tb (view c) k)).session)
      (checks-bad-table tb n (sound tb (view c)) (own_checks tb (view c) k) e)

  pub reply-playable : (q : Request) → Playable tb (reply_stored tb c q).session × Sized (reply_stored tb c q).session
  reply-playable q = rw (reply-stored q) (go (table_refusal tb) refl)
    where
      u : State ℕ
      u = (outcome_of tb (view c) q).session

      go : (n : ℕ) → table_refusal tb ≡ n → Playable tb (hold u) × Sized (hold u)
      go zero e = let h = reply-sound e q in (sound-playable tb u h, sound-sized tb u h)
      go (suc n) e = rw (bad-kept n e q, same) (p, z)

  pub reply-session : (q : Request) → view (reply_stored tb c q).session ≡ (outcome_of tb (view c) q).session
  reply-session q = ap (λ (r : Reply). view r.session) (reply-stored q) ∙ view-hold (outcome_of tb (view c) q).session

  pub reply-answer : (q : Request) → (reply_stored tb c q).answer ≡ (outcome_of tb (view c) q).answer
  reply-answer q = ap (λ (r : Reply). r.answer) (reply-stored q)
