-- What the answer of a start tells of the session that it leaves; its front screen is below 64; and the No-History bit changes
-- neither refusal nor front.
use Prim.Native.Nat.{ℕ, zero, suc, ◌≤◌, ◌<◌}
use mathlib.Core.Path.{◌≡◌, refl, sym, ◌∙◌, ap}
use mathlib.Core.Logic.{◌↔◌}
use mathlib.Core.List.{List}
use native.Mathlib.Omega.{arith}
use Rattle.model.specs.declared.Answer.{Answer}
use Rattle.model.specs.Refusals.{refusal}
use Rattle.model.specs.Session.{State, no_stack, front, front_screen, count}
use Rattle.model.specs.Answers.{look_at}
use Rattle.model.specs.Calls.{start, started, own_checks, done}
use Rattle.model.specs.NoHistory.{without_no_history}
use Rattle.model.proofs.Logic.{All-at}
use Rattle.model.proofs.Tables.{good-shaped}
use Rattle.model.proofs.Sound.{TaskSound}
use Rattle.model.proofs.Start.{start-accepted}
use Rattle.model.proofs.Keeps.{done-sound}
use Rattle.model.proofs.NoHistoryLaws.{chosen-six, checks-six}
use Rattle.session.specs.declared.Session.{Session}
use Rattle.session.specs.Stored.{view, Ready}
use Rattle.session.proofs.StoredLaws.{view-hold, sound-view}
use Rattle.calls.specs.StoredCalls.{given_by, refusal_stored, call_stored}
use Rattle.checks.proofs.SharedLaws.{checks-ready}
use Rattle.calls.proofs.Settling.{number-own}
use Rattle.fronts.specs.Fronts.{Brings, start_of}
use Rattle.fronts.proofs.SetLaws.{Shows}

module _ (tb : List ℕ) (c : Session) (b f : ℕ) where
  abbrev left : State ℕ
  left = done tb (view c) (start b f)

  -- accepted, by its answer
  accepted-zero : (start_of tb c b f).answer.refusal ≡ 0 → refusal_stored tb c (start b f) ≡ 0
  unfolding call_stored
  accepted-zero = go (refusal_stored tb c (start b f))
    where
      go : (n : ℕ) → (given_by tb c (start b f) n).answer.refusal ≡ 0 → n ≡ 0
      go zero e = refl
      go (suc n) e = e

  -- an accepted start is one on a sound session under a good table
  pub accepted-ready : (start_of tb c b f).answer.refusal ≡ 0 → Ready tb c
  unfolding refusal_stored
  accepted-ready e = checks-ready tb c (own_checks tb (view c) (start b f)) (accepted-zero e)

  module _ (e : refusal_stored tb c (start b f) ≡ 0) where
    -- the session that it leaves
    leaves : view (start_of tb c b f).session ≡ left
    unfolding call_stored
    leaves = rw e (view-hold left)

    shows-tasks : (start_of tb c b f).answer.tasks ≡ count left
    unfolding call_stored look_at
    shows-tasks = rw e

    shows-screen : (start_of tb c b f).answer.screen ≡ front_screen left
    unfolding call_stored look_at
    shows-screen = rw e

  pub shows-brings : (k : ℕ) → Shows (start_of tb c b f).answer k → Brings tb c b f k
  shows-brings k h =
      let e = accepted-zero h.accepted in
      record {
        accepted = h.accepted;
        some = rw (leaves e) (omega (arith, h.some, shows-tasks e));
        front = rw (leaves e) (sym (shows-screen e) ∙ h.screen);
      }

  pub brings-shows : (k : ℕ) → Brings tb c b f k → Shows (start_of tb c b f).answer k
  brings-shows k h =
      let e = accepted-zero h.accepted in
      let some = rw (leaves e) at h.some in
      let in-front = rw (leaves e) at h.front in
      record { accepted = h.accepted; some = omega (arith, some, shows-tasks e); screen = shows-screen e ∙ in-front }

  -- on a sound session under a good table
  module _ (ok : Ready tb c) where
    own-accepted : (start_of tb c b f).answer.refusal ≡ 0 → refusal (own_checks tb (view c) (start b f)) ≡ 0
    own-accepted e = sym (number-own tb c (start b f) ok) ∙ accepted-zero e

    pub shows-known : (k : ℕ) → Shows (start_of tb c b f).answer k → k < 64
    shows-known k h =
        let e = accepted-zero h.accepted in
        let after = done-sound tb ok.good (view c) (sound-view tb c ok.sound) (start b f) (own-accepted h.accepted) in
        let some : 0 < count left = omega (arith, h.some, shows-tasks e) in
        let t = All-at (TaskSound tb) left.tasks 0 no_stack some after.each in
        let x = All-at (λ (x : ℕ). x < _) (front left).screens 0 0 t.filled t.below in
        omega (arith, x, shows-screen e, h.screen, (good-shaped tb ok.good).most)

    -- by the answer that was given
    pub front-known : {x : Answer} → x ≡ (start_of tb c b f).answer → x.refusal ≡ 0 → (x.tasks ≡ 0 → ⊥) → x.screen < 64
    front-known {x} e accepted some =
        shows-known x.screen
        (record {
          accepted = ap (λ (y : Answer). y.refusal) (sym e) ∙ accepted;
          some = rw e at (more x.tasks some);
          screen = ap (λ (y : Answer). y.screen) (sym e);
        })
      where
        more : (n : ℕ) → (n ≡ 0 → ⊥) → 1 ≤ n
        more zero h = absurd (h refl)
        more (suc n) h = omega arith

    -- a start from an empty session is refused
    pub empty-refused : count (view c) ≡ 0 → (start_of tb c b f).answer.refusal ≡ 0 → ⊥
    unfolding own_checks
    empty-refused none e = omega (arith, none, (start-accepted tb (view c) b f (own-accepted e)).some)

-- the No-History bit changes neither the refusal nor what stands after the start
module _ (tb : List ℕ) (c : Session) (b f : ℕ) where
  refusal-six : refusal_stored tb c (start b (without_no_history f)) ≡ refusal_stored tb c (start b f)
  unfolding refusal_stored
  refusal-six = rw (checks-six tb (view c) b f)

  tasks-six : (done tb (view c) (start b (without_no_history f))).tasks ≡ (done tb (view c) (start b f)).tasks
  unfolding done started
  tasks-six = rw (chosen-six tb (view c) b f)

  answer-six : (k : ℕ) → Shows (start_of tb c b (without_no_history f)).answer k ↔ Shows (start_of tb c b f).answer k
  unfolding call_stored look_at
  answer-six k = rw refusal-six (go (refusal_stored tb c (start b f)))
    where
      go : (n : ℕ) → Shows (given_by tb c (start b (without_no_history f)) n).answer k ↔ Shows (given_by tb c (start b f) n).answer k
      go zero = (
        λ h. record { accepted = refl; some = rw tasks-six at h.some; screen = rw tasks-six at h.screen },
        λ h. record { accepted = refl; some = rw tasks-six h.some; screen = rw tasks-six h.screen },
      )
      go (suc n) = (λ h. absurd (omega (arith, h.accepted)), λ h. absurd (omega (arith, h.accepted)))

  pub brings-six : (k : ℕ) → Brings tb c b (without_no_history f) k ↔ Brings tb c b f k
  brings-six k = (
    λ h. shows-brings tb c b f k ((answer-six k).0 (brings-shows tb c b (without_no_history f) k h)),
    λ h. shows-brings tb c b (without_no_history f) k ((answer-six k).1 (brings-shows tb c b f k h)),
  )
