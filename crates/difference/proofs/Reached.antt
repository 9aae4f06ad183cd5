-- Two sessions after a look and k Backs whose answers agreed before the last, and after one Back more.
use Prim.Native.Nat.{ℕ, suc, ◌+◌, ◌≤◌}
use mathlib.Core.Path.{◌≡◌, sym, ◌∙◌, ap}
use mathlib.Core.List.{List, [], ◌∷◌, ◌++◌}
use native.Mathlib.Omega.{arith}
use lib.ListN.{replicate-append-replicate}
use Rattle.model.specs.declared.Answer.{Answer}
use Rattle.model.specs.Table.{table_refusal}
use Rattle.model.specs.Session.{State, count, screens_in}
use Rattle.model.specs.Answers.{Outcome, look_at, with_closed}
use Rattle.model.specs.Calls.{Call, back, look, backed, closed_of, done, call}
use Rattle.model.specs.Histories.{after, answers, by_rules}
use Rattle.model.proofs.Sound.{Sound}
use Rattle.model.proofs.Close.{backed-sound}
use Rattle.model.proofs.HistoryLaws.{after-append, answers-append}
use Rattle.model.proofs.Backs.{look-gives, back-gives, back-screens, back-tells}
use Rattle.session.specs.declared.Session.{Session}
use Rattle.session.specs.Stored.{view, hold, Ready}
use Rattle.session.proofs.Known.{Sized}
use Rattle.session.proofs.StoredLaws.{held, view-hold, hold-sound, hold-sized, sound-fits, sound-blank, sound-view}
use Rattle.calls.specs.declared.Reply.{Reply}
use Rattle.checks.specs.Shared.{shared_refusal}
use Rattle.calls.specs.StoredCalls.{call_stored}
use Rattle.checks.proofs.SharedLaws.{shared-passed}
use Rattle.calls.proofs.Settling.{filled-view, back-own, own-accepted}
use Rattle.difference.specs.Apart.{look_then_backs}

-- ---- one session

-- the stored session c after a look and k Backs from the session s, the last answer to them, and the answers before it
pub record Reached (tb : List ℕ) (s : State ℕ) (k : ℕ) (before : List Answer) (c : Session) (a : Answer) : Type 0 where
  pub stored : hold (view c) ≡ c
  pub sound : Sound tb (view c)
  pub left : after (by_rules tb) s (look_then_backs k) ≡ view c
  pub answered : answers (by_rules tb) s (look_then_backs k) ≡ before ++ a ∷ []
  -- it shows the session, and the screen that a Back closed
  pub shows : with_closed 0 a ≡ look_at (view c)

-- what an accepted Back on c gives: the front screen is gone, and one screen closed
pub record Backed (c : Session) (d : Reply) : Type 0 where
  pub session : d.session ≡ hold (backed (view c))
  pub answer : d.answer ≡ with_closed 1 (look_at (backed (view c)))

view-back : (c d : Session) → d ≡ hold (backed (view c)) → view d ≡ backed (view c)
view-back c d e = ap view e ∙ view-hold (backed (view c))

one_more : (k : ℕ) → look_then_backs (k + 1) ≡ look_then_backs k ++ back ∷ []
one_more k = ap (λ (cs : List Call). look ∷ cs) (sym (replicate-append-replicate k 1 back))

-- a Back behind a list
module _ (tb : List ℕ) (s : State ℕ) (cs : List Call) where
  after-back : after (by_rules tb) s (cs ++ back ∷ []) ≡ (call tb (after (by_rules tb) s cs) back).session
  unfolding after
  after-back = after-append (by_rules tb) cs (back ∷ []) s

  answers-back : answers (by_rules tb) s (cs ++ back ∷ [])
      ≡ answers (by_rules tb) s cs ++ (call tb (after (by_rules tb) s cs) back).answer ∷ []
  unfolding answers
  answers-back = answers-append (by_rules tb) cs (back ∷ []) s

module _ (tb : List ℕ) (ok : table_refusal tb ≡ 0) where
  pub reached-look : (c : Session) → Sized c → Ready tb c → {a : Answer} → a ≡ look_at (view c) → Reached tb (view c) 0 [] c a
  unfolding after answers look_at
  reached-look c z r e =
      let h = sound-view tb c r.sound in
      record {
        stored = held c z (sound-blank tb c r.sound);
        sound = h;
        left = ap (λ (o : Outcome). o.session) (look-gives tb ok (view c) h);
        answered = rw e (ap (λ (o : Outcome). o.answer ∷ []) (look-gives tb ok (view c) h));
        shows = rw e;
      }

  reached-back : {s : State ℕ} {k : ℕ} {before : List Answer} {c : Session} {a : Answer} → Reached tb s k before c a → 1 ≤ count (view c)
      → {d : Reply} → Backed c d → Reached tb s (k + 1) (before ++ a ∷ []) d.session d.answer
  unfolding look_at
  reached-back {s} {k} {before} {c} {a} r some {d} e =
      let v = view-back c d.session e.session in
      let g = back-gives tb ok (view c) r.sound some in
      record {
        stored = ap hold v ∙ sym e.session;
        sound = rw v (backed-sound tb (view c) r.sound);
        left = rw (one_more k, after-back tb s (look_then_backs k), r.left, g) (sym v);
        answered = rw (one_more k, answers-back tb s (look_then_backs k), r.left, r.answered, g, e.answer);
        shows = rw (e.answer, v);
      }

  reached-ready : {s : State ℕ} {k : ℕ} {before : List Answer} {c : Session} {a : Answer} → Reached tb s k before c a → Ready tb c
  reached-ready {c} r = record { good = ok; sound = rw r.stored at (hold-sound tb (view c) r.sound) }

  -- nothing refuses the next Back, and it removes the front screen
  pub reached-shared : {s : State ℕ} {k : ℕ} {before : List Answer} {c : Session} {a : Answer} → Reached tb s k before c a → 0 ≡ shared_refusal tb c
  reached-shared {c} r = let h = reached-ready r in sym (shared-passed tb c h.good h.sound)

  pub reached-backed : {s : State ℕ} {k : ℕ} {before : List Answer} {c : Session} {a : Answer} → Reached tb s k before c a → 1 ≤ c.n
      → {d : Reply} → d ≡ call_stored tb c back → Backed c d
  unfolding closed_of done
  reached-backed {c} r some e =
      let h = reached-ready r in
      let z = rw r.stored at (hold-sized (view c) (sound-fits tb (view c) r.sound)) in
      let own = back-own tb c (filled-view tb c z h (λ none. omega arith)) in
      let f = e ∙ own-accepted tb c back h own in
      record {
        session = ap (λ (x : Reply). x.session) f;
        answer = ap (λ (x : Reply). x.answer) f ∙ ap (λ (v : State ℕ). with_closed 1 (look_at v)) (view-hold (backed (view c)));
      }

pub reached-count : {tb : List ℕ} {s : State ℕ} {k : ℕ} {before : List Answer} {c : Session} {a : Answer} → Reached tb s k before c a → c.n ≡ count (view c)
unfolding hold
reached-count r = sym (ap (λ (x : Session). x.n) r.stored)

-- a screen is gone
pub reached-fewer : {tb : List ℕ} {s : State ℕ} {k : ℕ} {before : List Answer} {c : Session} {a : Answer} → Reached tb s k before c a → 1 ≤ c.n
    → (d : Session) → d ≡ hold (backed (view c)) → suc (screens_in (view d).tasks) ≡ screens_in (view c).tasks
reached-fewer {tb} {c} r some d e =
    rw (view-back c d e) (back-screens tb (view c) r.sound (omega (arith, reached-count r)))

-- ---- both

-- the stored sessions c and d after a look and k Backs from s and t, whose answers agree before the last ones, a and b
pub record Both (tb : List ℕ) (s t : State ℕ) (k : ℕ) (c d : Session) (a b : Answer) : Type 0 where
  pub before : List Answer
  pub one : Reached tb s k before c a
  pub other : Reached tb t k before d b
  pub screens : k + screens_in (view c).tasks ≡ screens_in s.tasks
  -- what is the same now was the same
  pub same : view c ≡ view d → s ≡ t

module _ {tb : List ℕ} {s t : State ℕ} {k : ℕ} {c d : Session} {a b : Answer} (r : Both tb s t k c d a b) (q : a ≡ b) where
  pub both-look : look_at (view c) ≡ look_at (view d)
  both-look = sym r.one.shows ∙ ap (with_closed 0) q ∙ r.other.shows

  pub both-count : d.n ≡ c.n
  unfolding look_at
  both-count = reached-count r.other ∙ sym (ap (λ (a : Answer). a.tasks) both-look) ∙ sym (reached-count r.one)

  -- the next Back
  pub both-back : table_refusal tb ≡ 0 → 1 ≤ c.n → (c' d' : Reply) → Backed c c' → Backed d d'
      → Both tb s t (k + 1) c'.session d'.session c'.answer d'.answer
  both-back ok some c' d' e f =
      let u : 1 ≤ count (view c) = omega (arith, reached-count r.one) in
      let v : 1 ≤ count (view d) = omega (arith, reached-count r.other, both-count) in
      record {
        before = r.before ++ a ∷ [];
        one = reached-back tb ok r.one u e;
        other = rw q (reached-back tb ok r.other v f);
        screens = omega (arith, reached-fewer r.one some c'.session e.session, r.screens);
        same = λ p. r.same (back-tells tb (view c) (view d) r.one.sound r.other.sound both-look u
            (sym (view-back c c'.session e.session) ∙ p ∙ view-back d d'.session f.session));
      }
