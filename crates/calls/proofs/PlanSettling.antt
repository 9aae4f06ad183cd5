-- Calls by their plans: each can be put, and what it puts with its answer is what the call gives.
use Prim.Native.Nat.{ℕ, zero, suc, ◌≤◌}
use mathlib.Core.Path.{◌≡◌, refl, sym, ◌∙◌, ap}
use mathlib.Core.Bool.{Bool, true, false, false≢true}
use mathlib.Core.List.{List, [], ◌++◌}
use native.Mathlib.Omega.{arith}
use lib.Dec.{leb}
use borrow.Author.Tests.{ne_eqb}
use Rattle.std.specs.Prelude.{Result, Ok, Err}
use Rattle.model.specs.declared.Flags.{Flags}
use Rattle.model.specs.Refusals.{refusal, unless}
use Rattle.model.specs.Rules.{choose}
use Rattle.model.specs.Session.{most_tasks}
use Rattle.model.specs.Flags.{flags_of}
use Rattle.model.specs.Answers.{refused}
use Rattle.model.specs.Calls.{Call, chosen, launch, back, look, edition_named, launched, started, start_checks, room_checks, own_checks, closed_of, done}
use Rattle.model.proofs.RefusalLaws.{refusal-append-refused, refusal-append-passed}
use Rattle.session.specs.declared.Session.{Session}
use Rattle.session.specs.Stored.{view, hold, hold_task, pad, blank_task, Ready, task_behind}
use Rattle.session.proofs.Known.{Sized}
use Rattle.session.proofs.StoredLaws.{held, sound-blank}
use Rattle.answer.specs.Seen.{Seen}
use Rattle.rules.specs.Startable.{Startable}
use Rattle.starts.specs.Checks.{start_entry, room_refusal}
use Rattle.starts.proofs.Entries.{start-numbers, start-split}
use Rattle.plans.specs.declared.Plan.{Plan}
use Rattle.plans.specs.Puts.{Puttable, put_of}
use Rattle.plans.specs.Plans.{still_of, keeps, closes, Opens}
use Rattle.plans.proofs.Closes.{closed-puttable, still-put, still-puttable, back-put, back-puttable, back-opens}
use Rattle.plans.proofs.Answered.{Uncovers, showable, answers-look}
use Rattle.starts.specs.declared.Decided.{Decided}
use Rattle.starts.specs.Steps.{or_else, Plannable, chosen_stored, task_for, start_plan, accepted_by}
use Rattle.starts.proofs.Planning.{made, made_closed, start-put, start-puttable, start-uncovers, start-closes}
use Rattle.starts.proofs.Seeking.{entered-startable}
use Rattle.calls.specs.declared.Reply.{Reply}
use Rattle.checks.specs.Shared.{shared_refusal}
use Rattle.calls.specs.StoredCalls.{reply, start_of, refusal_stored, call_stored}
use Rattle.calls.specs.CallPlans.{launch_refusal, main_task, launch_plan, back_refusal, back_mark, back_plan, carried_out, CanCarryOut}
use Rattle.calls.specs.RecordPlans.{plan_in, start_decided}
use Rattle.checks.proofs.SharedLaws.{shared-ready}
use Rattle.calls.proofs.Settling.{number-shared, number-own, call-refused, own-refused, own-accepted, own-seen, own-sized, empty-view, filled-view, launch-own, launch-22, back-own, back-21}

-- what is planned for c gives the reply r
pub record Gives (c : Session) (x : Result Plan ℕ) (r : Reply) : Type 0 where
  pub can : CanCarryOut c x
  pub gives : carried_out c x ≡ r

-- refused
pub refused-gives : (c : Session) (n : ℕ) {r : Reply} → r ≡ reply c (refused n) → Gives c (Err n) r
refused-gives c n e = record { can = tt; gives = sym e }

-- the number of a call, from m, the refusal of the shared checks, and j, that of its own
pub plan-refusal : (tb : List ℕ) (c : Session) (k : Call) (m j : ℕ) → m ≡ shared_refusal tb c
    → (Ready tb c → j ≡ refusal (own_checks tb (view c) k)) → or_else m j ≡ refusal_stored tb c k
plan-refusal tb c k zero j shared own = let h = shared-ready tb c (sym shared) in own h ∙ sym (number-own tb c k h)
plan-refusal tb c k (suc m) j shared own = sym (number-shared tb c k (suc m) (sym shared) (λ e. omega arith))

-- what a plan has to be for an accepted call
pub record Makes-by (tb : List ℕ) (c : Session) (k : Call) (p : Plan) : Type 0 where
  pub puttable : Puttable c p
  pub uncovers : Uncovers p
  pub makes : put_of c p ≡ hold (done tb (view c) k)
  pub closes : p.closed ≡ closed_of tb (view c) k

module _ (tb : List ℕ) (c : Session) (z : Sized c) (k : Call) where
  module _ (h : Ready tb c) (own : refusal (own_checks tb (view c) k) ≡ 0) where
    gives-accepted : (p : Plan) → Makes-by tb c k p → Gives c (Ok p) (call_stored tb c k)
    gives-accepted p m =
        let sizes : Sized (put_of c p) = rw m.makes (own-sized tb c k h own) in
        let seen : Seen (put_of c p) = rw m.makes (own-seen tb c k h own) in
        record {
          can = (m.puttable, showable c z p m.uncovers sizes seen);
          gives = ap (reply (put_of c p)) (answers-look c z p m.uncovers sizes seen)
              ∙ rw (m.makes, m.closes) (sym (own-accepted tb c k h own));
        }

  -- m is the refusal of the shared checks, j that of the call's own
  module _ (m j : ℕ) (shared : m ≡ shared_refusal tb c) (own : Ready tb c → j ≡ refusal (own_checks tb (view c) k))
      (p : Plan) (makes : Ready tb c → j ≡ 0 → Makes-by tb c k p) where
    pub gives-plan : Gives c (unless (or_else m j) p) (call_stored tb c k)
    gives-plan = go m j refl refl
      where
        go : (l i : ℕ) → m ≡ l → j ≡ i → Gives c (unless (or_else l i) p) (call_stored tb c k)
        go (suc l) i q r = refused-gives c (suc l) (call-refused tb c k (suc l) (sym shared ∙ q) (λ o. omega arith))
        go zero (suc i) q r =
            let h = shared-ready tb c (sym shared ∙ q) in
            refused-gives c (suc i) (own-refused tb c k h (suc i) (sym (own h) ∙ r) (λ o. omega arith))
        go zero zero q r =
            let h = shared-ready tb c (sym shared ∙ q) in
            gives-accepted h (sym (own h) ∙ r) p (makes h r)

-- ---- look

module _ (tb : List ℕ) (c : Session) (z : Sized c) where
  look-makes : Ready tb c → Makes-by tb c look (still_of c)
  unfolding closed_of done
  look-makes h =
      record {
        puttable = still-puttable c;
        uncovers = λ e. absurd (omega (arith, e));
        makes = still-put c z ∙ sym (held c z (sound-blank tb c h.sound));
        closes = refl;
      }

  look-number : refusal (own_checks tb (view c) look) ≡ 0
  unfolding own_checks refusal
  look-number = refl

  pub look-gives : (m : ℕ) → m ≡ shared_refusal tb c → Gives c (unless m (still_of c)) (call_stored tb c look)
  look-gives m shared =
      rw (sym (none m)) (gives-plan tb c z look m 0 shared (λ h. sym look-number) (still_of c) (λ h e. look-makes h))
    where
      none : (n : ℕ) → unless (or_else n 0) (still_of c) ≡ unless n (still_of c)
      none zero = refl
      none (suc n) = refl

-- ---- launch

-- no task stands where the check passes
launch-empty : (n e : ℕ) → launch_refusal n e ≡ 0 → n ≡ 0
launch-empty zero e r = refl
launch-empty (suc n) e r = absurd (let f : 22 ≡ 0 = rw (ne_eqb (suc n) 0 (λ q. omega arith)) at r in omega arith)

module _ (tb : List ℕ) (c : Session) (z : Sized c) (v : ℕ) where
  pub launch-number : Ready tb c → launch_refusal c.n v ≡ refusal (own_checks tb (view c) (launch v))
  launch-number h = go c.n refl
    where
      go : (n : ℕ) → c.n ≡ n → launch_refusal n v ≡ refusal (own_checks tb (view c) (launch v))
      go zero e = sym (launch-own tb c v (empty-view tb c e))
      go (suc n) e = rw (ne_eqb (suc n) 0 (λ q. omega arith)) (sym (launch-22 tb c v (filled-view tb c z h (λ none. omega arith))))

  -- the main task in front of none
  launch-put : Ready tb c → c.n ≡ 0 → put_of c (keeps (main_task tb) 0 1 1 (edition_named v)) ≡ hold (launched tb v)
  unfolding view hold hold_task pad launched
  launch-put h e =
      let none : c.tasks ≡ pad most_tasks blank_task [] = sym (ap (λ (d : Session). d.tasks) (held c z (sound-blank tb c h.sound))) ∙ rw e in
      rw none

  pub launch-gives : (m : ℕ) → m ≡ shared_refusal tb c → Gives c (launch_plan m tb c v) (call_stored tb c (launch v))
  unfolding closed_of done
  launch-gives m shared =
      gives-plan tb c z (launch v) m (launch_refusal c.n v) shared launch-number (keeps (main_task tb) 0 1 1 (edition_named v)) (λ h e.
      record {
        puttable = record { few = omega arith; second = λ p. absurd (false≢true p) };
        uncovers = λ g. absurd (omega (arith, g));
        makes = launch-put h (launch-empty c.n v e);
        closes = refl;
      })

-- ---- Back

back-uncovers : (c : Session) (one : Bool) → Uncovers (closes back_mark one (leb 0 1) (task_behind c 0) 0 c.n c.main c.edition)
back-uncovers c true e = (refl, refl)
back-uncovers c false e = absurd (omega (arith, e))

-- a task stands where the check passes
pub back_some : (n : ℕ) → back_refusal n ≡ 0 → 1 ≤ n
back_some zero e = absurd (omega arith)
back_some (suc n) e = omega arith

module _ (tb : List ℕ) (c : Session) (z : Sized c) where
  back-number : Ready tb c → back_refusal c.n ≡ refusal (own_checks tb (view c) back)
  back-number h = go c.n refl
    where
      go : (n : ℕ) → c.n ≡ n → back_refusal n ≡ refusal (own_checks tb (view c) back)
      go zero e = sym (back-21 tb c (empty-view tb c e))
      go (suc n) e = rw (ne_eqb (suc n) 0 (λ q. omega arith)) (sym (back-own tb c (filled-view tb c z h (λ none. omega arith))))

  module _ (m : ℕ) (shared : m ≡ shared_refusal tb c) where
    pub back-gives : Gives c (back_plan m c) (call_stored tb c back)
    unfolding closed_of done
    back-gives =
        gives-plan tb c z back m _ shared back-number _ (λ h e.
        let some = back_some c.n e in
        let one = leb (task_behind c 0).height 1 in
        record {
          puttable = closed-puttable c 1 (back-puttable tb c z h some (leb 0 1));
          uncovers = back-uncovers c one;
          makes = back-put tb c z h some (leb 0 1);
          closes = refl;
        })

    -- what its plan requires
    pub back-plans : m ≡ 0 → 1 ≤ c.n → Opens back_mark (task_behind c 0)
    back-plans e some = back-opens tb c z (shared-ready tb c (sym shared ∙ e)) some (leb 0 1)

-- ---- starts

pub or-or : (l m n : ℕ) → or_else (or_else l m) n ≡ or_else l (or_else m n)
or-or zero m n = refl
or-or (suc l) m n = refl

-- what is decided of a start for which there is room, and its plan
module _ (tb : List ℕ) (c : Session) (b : ℕ) (f : Flags) (fin : Bool) where
  abbrev pub roomy : Decided
  roomy = accepted_by fin f.noh (choose tb (view c) b f).found b c (task_for tb c b f) (chosen_stored tb c b f)

  abbrev pub roomy_plan : Plan
  roomy_plan = start_plan b c (task_for tb c b f) (chosen_stored tb c b f) fin f.noh

module _ (tb : List ℕ) (c : Session) (z : Sized c) (b w : ℕ) (fin : Bool) where
  abbrev does : Call
  does = start_of fin b w

  abbrev entry : ℕ
  entry = refusal (start_entry tb c.n b w)

  abbrev room_of : ℕ
  room_of = room_refusal tb c b (flags_of w)

  -- both kinds have the checks of a start
  own-checks : own_checks tb (view c) does ≡ start_checks tb (view c) b w
  unfolding own_checks
  own-checks = go fin
    where
      go : (f : Bool) → own_checks tb (view c) (start_of f b w) ≡ start_checks tb (view c) b w
      go true = refl
      go false = refl

  -- its own refusal: at its entry, or for want of room
  pub start-number : Ready tb c → or_else entry room_of ≡ refusal (own_checks tb (view c) does)
  start-number h = go entry refl ∙ sym (ap refusal (own-checks ∙ start-split c z (sound-blank tb c h.sound) tb b w))
    where
      go : (n : ℕ) → entry ≡ n → or_else n room_of ≡ refusal (start_entry tb c.n b w ++ room_checks (chosen tb (view c) b w) (view c))
      go zero e = sym (refusal-append-passed (start_entry tb c.n b w) (room_checks (chosen tb (view c) b w) (view c)) (start-numbers tb c.n b w) e)
      go (suc n) e = sym (refusal-append-refused n (start_entry tb c.n b w) (room_checks (chosen tb (view c) b w) (view c)) e)

  -- the number of a start, from m, the refusal of the shared checks
  pub start-refusal : (m : ℕ) → m ≡ shared_refusal tb c → or_else (or_else m entry) room_of ≡ refusal_stored tb c does
  start-refusal m shared = or-or m entry room_of ∙ plan-refusal tb c does m (or_else entry room_of) shared start-number

  -- the session that it makes
  made-done : (f : Bool) → hold (made f tb c b (flags_of w)) ≡ hold (done tb (view c) (start_of f b w))
  unfolding done started
  made-done true = refl
  made-done false = refl

  -- the screens that it closes
  made-closed : (f : Bool) → made_closed f tb c b (flags_of w) ≡ closed_of tb (view c) (start_of f b w)
  unfolding closed_of
  made-closed true = refl
  made-closed false = refl

  start-makes : Ready tb c → or_else entry room_of ≡ 0 → Makes-by tb c does (roomy_plan tb c b (flags_of w) fin)
  start-makes h e = go entry refl e
    where
      go : (n : ℕ) → entry ≡ n → or_else n room_of ≡ 0 → Makes-by tb c does (roomy_plan tb c b (flags_of w) fin)
      go (suc n) q r = absurd (omega (arith, r))
      go zero q room =
          let s : Startable tb c b = entered-startable tb c b w 0 h q in
          let ok : Plannable tb c b (flags_of w) _ (chosen_stored tb c b (flags_of w)) =
          record { chosen = refl; task = refl; room = room } in
          record {
            puttable = start-puttable z s ok fin;
            uncovers = start-uncovers z s ok fin;
            makes = start-put z s ok fin ∙ made-done fin;
            closes = start-closes z s ok fin ∙ made-closed fin;
          }

  pub start-gives : (m : ℕ) → m ≡ shared_refusal tb c → Gives c (plan_in (start_decided m tb c b w fin)) (call_stored tb c does)
  start-gives m shared =
      rw (planned (or_else (or_else m entry) room_of), or-or m entry room_of)
      (gives-plan tb c z does m (or_else entry room_of) shared start-number (roomy_plan tb c b (flags_of w) fin) start-makes)
    where
      planned : (n : ℕ) → plan_in (unless n (roomy tb c b (flags_of w) fin)) ≡ unless n (roomy_plan tb c b (flags_of w) fin)
      planned zero = refl
      planned (suc n) = refl
