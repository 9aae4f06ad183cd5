-- What is left of a list of calls: from the session there it ends as the whole list does, and creates and closes what is not
-- counted yet.
use Prim.Native.Nat.{ℕ, ◌+◌, ◌≤◌}
use mathlib.Core.Path.{◌≡◌, refl, sym, ◌∙◌, ap}
use mathlib.Core.Bool.{true, false}
use mathlib.Core.List.{List, [], ◌∷◌}
use native.Mathlib.Omega.{arith}
use lib.Dec.{eqb}
use lib.ListN.{length, get_or, take, drop, length-take, length-drop}
use Rattle.model.specs.Table.{table_refusal}
use Rattle.model.specs.Session.{State, screens_in}
use Rattle.model.specs.Calls.{Call, launch, start, finishing_start, back, look, restore, call}
use Rattle.model.specs.Player.{Request, unplayable, request_of}
use Rattle.model.specs.Histories.{after, along, by_rules}
use Rattle.model.specs.Balance.{created}
use Rattle.model.proofs.Logic.{if-elim}
use Rattle.model.proofs.Sound.{Sound}
use Rattle.model.proofs.Keeps.{call-sound}
use Rattle.model.proofs.HistoryLaws.{after-append, along-append}
use Rattle.model.proofs.Balance.{standing, most_brought, created-most, call-most}
use Rattle.session.specs.declared.Session.{Session}
use Rattle.session.specs.Stored.{view, hold, Ready}
use Rattle.session.proofs.Known.{Sized}
use Rattle.session.proofs.StoredLaws.{held, view-hold, hold-sound, sound-blank, sound-view}
use Rattle.calls.specs.declared.Reply.{Reply}
use Rattle.calls.specs.StoredCalls.{by_program}
use Rattle.calls.proofs.HistoryLaws.{call-held, after-held}
use Rattle.recording.specs.CallBytes.{call_asked, call_of, first_word, first_image, first_call, call_read, first_whole, calls_in}
use Rattle.recording.specs.Counts.{reply_to, created_for, closing, Counts}
use Rattle.recording.proofs.OneCall.{whole-six}
use Rattle.recording.proofs.Reading.{calls-cut, calls-first, call-taken}

-- ---- one record

-- it is no call, or one that brings at most six screens, or a byte of the image each
module _ (P : List Call → Type 0) (n kind b w : ℕ) (bytes : List ℕ) (short : length bytes ≤ n)
    (none : P []) (one : (k : Call) → most_brought k ≤ 6 + n → P (k ∷ [])) where
  asked : P (call_asked (request_of kind b w))
  unfolding request_of
  asked =
      let Q : Request → Type 0 = λ q. P (call_asked q) in
      if-elim Q (eqb kind 1) _ _ (λ e. one (launch b) (omega arith))
      (λ e. if-elim Q (eqb kind 2) _ _ (λ e. one (start b w) (omega arith))
      (λ e. if-elim Q (eqb kind 3) _ _ (λ e. one (finishing_start b w) (omega arith))
      (λ e. if-elim Q (eqb kind 4) _ _ (λ e. one back (omega arith))
      (λ e. if-elim Q (eqb kind 5) _ unplayable (λ e. one look (omega arith)) (λ e. none)))))

  call-elim : P (call_of kind b w bytes)
  unfolding call_of
  call-elim = if-elim P (eqb kind 6) _ _ (λ e. one (restore bytes) (omega (arith, short))) (λ e. asked)

-- what it gives, by the rules
record Gave (tb : List ℕ) (v : State ℕ) (n : ℕ) (ks : List Call) (r : Reply) : Type 0 where
  session : r.session ≡ hold (after (by_rules tb) v ks)
  sound : Sound tb (after (by_rules tb) v ks)
  closed : r.answer.closed ≡ along (by_rules tb) (closing tb) v ks
  few : along (by_rules tb) (created tb) v ks ≤ 6
  low : standing (after (by_rules tb) v ks) + along (by_rules tb) (closing tb) v ks ≤ standing v + (6 + n)

module _ (tb : List ℕ) (ok : table_refusal tb ≡ 0) (v : State ℕ) (h : Sound tb v) (n : ℕ) where
  gave-none : (r : Reply) → r ≡ reply_to tb (hold v) [] → Gave tb v n [] r
  unfolding after along
  gave-none r e =
      record {
        session = ap (λ (x : Reply). x.session) e;
        sound = h;
        closed = ap (λ (x : Reply). x.answer.closed) e;
        few = omega arith;
        low = omega arith;
      }

  gave_one : (k : Call) → most_brought k ≤ 6 + n → (r : Reply) → r ≡ reply_to tb (hold v) (k ∷ []) → Gave tb v n (k ∷ []) r
  unfolding after along
  gave_one k l r e =
      let f = e ∙ call-held tb ok v h k in
      let c : r.answer.closed ≡ (call tb v k).answer.closed = ap (λ (x : Reply). x.answer.closed) f in
      record {
        session = ap (λ (x : Reply). x.session) f;
        sound = call-sound tb ok v h k;
        closed = omega (arith, c);
        few = omega (arith, created-most tb ok v k);
        low = omega (arith, call-most tb ok v h k, l);
      }

  gave : (kind b w : ℕ) (bytes : List ℕ) → length bytes ≤ n → (r : Reply) → r ≡ reply_to tb (hold v) (call_of kind b w bytes)
      → Gave tb v n (call_of kind b w bytes) r
  gave kind b w bytes short =
      call-elim (λ ks. (r : Reply) → r ≡ reply_to tb (hold v) ks → Gave tb v n ks r) n kind b w bytes short gave-none gave_one

-- ---- in a list

-- the list l was begun with the session c₀; where m is left of it the session is c, x screens were created and y closed
pub record Reached (tb l : List ℕ) (c₀ c : Session) (m : List ℕ) (x y : ℕ) : Type 0 where
  pub stored : hold (view c) ≡ c
  pub sound : Sound tb (view c)
  pub rest : after (by_rules tb) (view c₀) (calls_in l) ≡ after (by_rules tb) (view c) (calls_in m)
  pub creates : along (by_rules tb) (created tb) (view c₀) (calls_in l) ≡ x + along (by_rules tb) (created tb) (view c) (calls_in m)
  pub closes : along (by_rules tb) (closing tb) (view c₀) (calls_in l) ≡ y + along (by_rules tb) (closing tb) (view c) (calls_in m)
  pub few : x + length m ≤ length l
  pub low : y + standing (view c) + length m ≤ length l

pub reached-start : (tb l : List ℕ) (c : Session) → Sized c → Ready tb c → screens_in (view c).tasks ≡ 0 → Reached tb l c c l 0 0
unfolding screens_in
reached-start tb l c z h e =
    record {
      stored = held c z (sound-blank tb c h.sound);
      sound = sound-view tb c h.sound;
      rest = refl;
      creates = omega arith;
      closes = omega arith;
      few = omega arith;
      low = omega (arith, e);
    }

module _ {tb l : List ℕ} {c₀ c : Session} {m : List ℕ} {x y : ℕ} (h : Reached tb l c₀ c m x y) where
  -- a whole record more, which takes n bytes with its image
  module _ (ok : table_refusal tb ≡ 0) (whole : first_whole m ≡ true) (n : ℕ) (is : n ≡ 6 + first_image m) (r : Reply)
      (replies : r ≡ reply_to tb c (call_read (take n m))) where
    abbrev ks : List Call
    ks = first_call m

    taken : Gave tb (view c) (first_image m) ks r
    taken =
        let f : r ≡ reply_to tb c ks = replies ∙ ap (reply_to tb c) (call-taken m n is) in
        gave tb ok (view c) h.sound (first_image m) (get_or m 0 0) (get_or m 1 0) (first_word m) (take (first_image m) (drop 6 m))
        (omega (arith, length-take (first_image m) (drop 6 m))) r (rw h.stored f)

    fits : n ≤ length m
    fits = omega (arith, whole-six m whole)

    -- the sums fit
    pub reached-closed : y + r.answer.closed ≤ length l
    reached-closed = omega (arith, h.low, taken.low, taken.closed, fits)

    module _ (z : ℕ) (creates : z ≡ created_for tb (view c) (call_read (take n m))) where
      e : z ≡ along (by_rules tb) (created tb) (view c) ks
      e = creates ∙ ap (created_for tb (view c)) (call-taken m n is)

      pub reached-created : x + z ≤ length l
      reached-created = omega (arith, h.few, e, taken.few, fits)

      pub reached-more : Reached tb l c₀ r.session (drop n m) (x + z) (y + r.answer.closed)
      reached-more =
          let v : view r.session ≡ after (by_rules tb) (view c) ks = ap view taken.session ∙ view-hold (after (by_rules tb) (view c) ks) in
          let left = calls-first m n is whole in
          let rest = calls_in (drop n m) in
          let d = length-drop n m in
          record {
            stored = ap hold v ∙ sym taken.session;
            sound = rw v taken.sound;
            rest = h.rest ∙ rw (left, v) (after-append (by_rules tb) ks rest (view c));
            creates = rw v (omega (arith, e, rw left at h.creates, along-append (by_rules tb) (created tb) ks rest (view c)));
            closes = rw v (omega (arith, taken.closed, rw left at h.closes, along-append (by_rules tb) (closing tb) ks rest (view c)));
            few = omega (arith, h.few, e, taken.few, fits);
            low = rw v (omega (arith, h.low, taken.low, taken.closed, fits));
          }

  -- no call is left
  pub reached-end : table_refusal tb ≡ 0 → hold (view c₀) ≡ c₀ → Sound tb (view c₀) → first_whole m ≡ false
      → Counts tb c₀ (calls_in l) (record { session = c; created = x; closed = y })
  unfolding after along
  reached-end ok stored sound cut =
      let e = calls-cut m cut in
      record {
        session = sym h.stored ∙ sym (ap hold (rw e at h.rest)) ∙ sym (after-held tb ok (view c₀) sound (calls_in l)) ∙ ap (λ (o : Session). after (by_program tb) o (calls_in l)) stored;
        created = omega (arith, rw e at h.creates);
        closed = omega (arith, rw e at h.closes);
      }

pub reached-ready : {tb l : List ℕ} {c₀ c : Session} {m : List ℕ} {x y : ℕ} → Reached tb l c₀ c m x y → table_refusal tb ≡ 0 → Ready tb c
reached-ready {tb} {c} h ok = record { good = ok; sound = rw h.stored at (hold-sound tb (view c) h.sound) }
