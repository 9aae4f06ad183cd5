-- A call on a stored session, by its refusal and by what its first checks said; and that what it leaves is sound.
use Prim.Native.Nat.{ℕ, zero, suc, ◌≤◌}
use mathlib.Core.Path.{◌≡◌, refl, sym, ◌∙◌, ap}
use mathlib.Core.Bool.{Bool, true, false, not}
use mathlib.Core.List.{List, [], ◌∷◌}
use native.Mathlib.Nat.{not-suc-le-zero}
use native.Mathlib.Omega.{arith}
use lib.ListN.{length}
use borrow.Author.Tests.{not-false}
use Rattle.std.specs.Prelude.{if◌then◌else◌}
use Rattle.model.specs.Lists.{is_empty}
use Rattle.model.specs.Refusals.{Check, check, accepted, refusal}
use Rattle.model.specs.Table.{table_refusal, table_shaped, table_filled}
use Rattle.model.specs.Session.{Stack, State, is_edition}
use Rattle.model.specs.Answers.{look_at, with_closed, refused}
use Rattle.model.specs.Calls.{Call, launch, back, look, edition_named, checks_in, own_checks, closed_of, done}
use Rattle.model.proofs.RefusalLaws.{refusal-skip, refusal-passes, refusal-append-refused, checks-bad-table, checks-unsound, checks-own}
use Rattle.model.proofs.Keeps.{done-sound}
use Rattle.session.specs.declared.Session.{Session}
use Rattle.session.specs.Stored.{view, hold, sound_stored, Ready}
use Rattle.answer.specs.Seen.{Seen}
use Rattle.session.proofs.Known.{Sized}
use Rattle.session.proofs.StoredLaws.{held, view-hold, view-count, hold-sound, hold-sized, sound-fits, sound-blank, blank-few, sound-view}
use Rattle.answer.proofs.LookLaws.{answer_by, answer-refused, answer-accepted, sound-seen}
use Rattle.calls.specs.declared.Reply.{Reply}
use Rattle.checks.specs.Shared.{shared_refusal}
use Rattle.calls.specs.StoredCalls.{reply, given_by, refusal_stored, call_stored, KeepsSound}

-- the call k on c, which closes no screen, left the session s, with the refusal n
pub record Left (tb : List ℕ) (c : Session) (k : Call) (n : ℕ) (s : Session) : Type 0 where
  pub settles : reply s (answer_by n (look_at (view s))) ≡ call_stored tb c k
  pub seen : n ≡ 0 → Seen s

-- a look closes none
closed_none : (v : State ℕ) → with_closed 0 (look_at v) ≡ look_at v
unfolding look_at
closed_none v = refl

module _ (tb : List ℕ) (c : Session) where
  -- ---- calls

  module _ (k : Call) where
    -- the number of a call that one of the shared checks refuses, and of one that they pass
    pub number-shared : (n : ℕ) → shared_refusal tb c ≡ n → (n ≡ 0 → ⊥) → refusal_stored tb c k ≡ n
    unfolding refusal_stored shared_refusal
    number-shared zero e z = absurd (z refl)
    number-shared (suc n) e z = refusal-append-refused n (checks_in tb (sound_stored tb c) []) (own_checks tb (view c) k) e

    pub number-own : Ready tb c → refusal_stored tb c k ≡ refusal (own_checks tb (view c) k)
    unfolding refusal_stored
    number-own h = rw h.sound (checks-own tb (own_checks tb (view c) k) h.good)

    -- refused by one of the shared checks
    pub call-refused : (n : ℕ) → shared_refusal tb c ≡ n → (n ≡ 0 → ⊥) → call_stored tb c k ≡ reply c (refused n)
    unfolding call_stored
    call-refused zero e z = absurd (z refl)
    call-refused (suc n) e z = ap (given_by tb c k) (number-shared (suc n) e z)

    -- only the call's own checks are left
    pub call_settled : Ready tb c → call_stored tb c k ≡ given_by tb c k (refusal (own_checks tb (view c) k))
    unfolding call_stored
    call_settled h = ap (given_by tb c k) (number-own h)

    -- a sound session stays sound
    pub call-keeps : KeepsSound tb c (call_stored tb c k).session
    call-keeps g e =
        rw (call_settled (record { good = g; sound = e })) (go (refusal (own_checks tb (view c) k)) refl)
      where
        go : (n : ℕ) → refusal (own_checks tb (view c) k) ≡ n → sound_stored tb (given_by tb c k n).session ≡ true
        go zero f = hold-sound tb (done tb (view c) k) (done-sound tb g (view c) (sound-view tb c e) k f)
        go (suc n) f = e

    -- what a call gives, with both clauses of its contract
    pub call-gives : (r : Reply) → r ≡ call_stored tb c k → (r ≡ call_stored tb c k) × KeepsSound tb c r.session
    call-gives r e = (e, rw e call-keeps)

    -- refused by a check of its own
    pub own-refused : Ready tb c → (n : ℕ) → refusal (own_checks tb (view c) k) ≡ n → (n ≡ 0 → ⊥) → call_stored tb c k ≡ reply c (refused n)
    own-refused h zero e z = absurd (z refl)
    own-refused h (suc n) e z = call_settled h ∙ ap (given_by tb c k) e

    -- accepted: the session that it makes, a look at it, and the screens that it closed
    pub own-accepted : Ready tb c → refusal (own_checks tb (view c) k) ≡ 0
        → call_stored tb c k ≡ reply (hold (done tb (view c) k)) (with_closed (closed_of tb (view c) k) (look_at (view (hold (done tb (view c) k)))))
    own-accepted h e =
        call_settled h ∙ ap (given_by tb c k) e
        ∙ ap (λ (v : State ℕ). reply (hold (done tb (view c) k)) (with_closed (closed_of tb (view c) k) (look_at v))) (sym (view-hold (done tb (view c) k)))

    -- which can be looked at
    pub own-seen : Ready tb c → refusal (own_checks tb (view c) k) ≡ 0 → Seen (hold (done tb (view c) k))
    own-seen h e = sound-seen tb (done tb (view c) k) (done-sound tb h.good (view c) (sound-view tb c h.sound) k e)

    pub own-sized : Ready tb c → refusal (own_checks tb (view c) k) ≡ 0 → Sized (hold (done tb (view c) k))
    own-sized h e =
        hold-sized (done tb (view c) k)
        (sound-fits tb (done tb (view c) k) (done-sound tb h.good (view c) (sound-view tb c h.sound) k e))

    -- ---- what a call that closes no screen left

    -- refused, the session as it was
    pub left-refused : (n : ℕ) → call_stored tb c k ≡ reply c (refused n) → (n ≡ 0 → ⊥) → Left tb c k n c
    left-refused n e z = record { settles = ap (reply c) (sym (answer-refused _ n z)) ∙ sym e; seen = λ q. absurd (z q) }

    -- accepted, the session that it makes
    pub left-made : Ready tb c → refusal (own_checks tb (view c) k) ≡ 0 → closed_of tb (view c) k ≡ 0
        → {n : ℕ} {d : Session} → n ≡ 0 → d ≡ hold (done tb (view c) k) → Left tb c k n d
    left-made h e none {n} {d} z m =
        let made = hold (done tb (view c) k) in
        record {
          settles = ap (reply d) (sym (answer-accepted _ n z))
              ∙ rw m (ap (reply made) (sym (closed_none (view made))) ∙ rw (← none) (sym (own-accepted h e)));
          seen = λ q. rw m (own-seen h e);
        }

  -- ---- look

  pub look-settled : Sized c → Ready tb c → call_stored tb c look ≡ reply c (look_at (view c))
  unfolding own_checks closed_of done refusal look_at
  look-settled z h = call_settled look h ∙ ap (λ (s : Session). reply s (look_at (view c))) (held c z (sound-blank tb c h.sound))

  -- ---- launch and Back

  pub empty-view : c.n ≡ 0 → is_empty (view c).tasks ≡ true
  unfolding view
  empty-view e = rw e

  pub filled-view : Sized c → Ready tb c → (c.n ≡ 0 → ⊥) → is_empty (view c).tasks ≡ false
  filled-view z h n = filled (view c).tasks (omega (arith, view-count c z (blank-few c (sound-blank tb c h.sound))))
    where
      filled : (ts : List (Stack ℕ)) → 1 ≤ length ts → is_empty ts ≡ false
      filled [] l = absurd (not-suc-le-zero l)
      filled (t ∷ ts) l = refl

  pub launch-own : (e : ℕ) → is_empty (view c).tasks ≡ true
      → refusal (own_checks tb (view c) (launch e)) ≡ (if is_edition (edition_named e) then 0 else 30)
  unfolding own_checks refusal
  launch-own e none = rw none (go (is_edition (edition_named e)))
    where
      go : (b : Bool) → (if not b then check 30 (not b) else accepted).refusal ≡ (if b then 0 else 30)
      go true = refl
      go false = refl

  pub launch-22 : (e : ℕ) → is_empty (view c).tasks ≡ false → refusal (own_checks tb (view c) (launch e)) ≡ 22
  unfolding own_checks refusal
  launch-22 e some = rw some

  pub back-own : is_empty (view c).tasks ≡ false → refusal (own_checks tb (view c) back) ≡ 0
  unfolding own_checks refusal
  back-own e = rw e

  pub back-21 : is_empty (view c).tasks ≡ true → refusal (own_checks tb (view c) back) ≡ 21
  unfolding own_checks refusal
  back-21 e = rw e

-- a sound session can be looked at
pub ready-seen : (tb : List ℕ) (c : Session) → Sized c → Ready tb c → Seen c
ready-seen tb c z h = rw (held c z (sound-blank tb c h.sound)) at (sound-seen tb (view c) (sound-view tb c h.sound))
