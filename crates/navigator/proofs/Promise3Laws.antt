-- Promise 3. A session that the program reaches is one of the rules', stored; it is sound, so its image and its answers each
-- determine it; and what save writes into a buffer that is long enough is that image.
use Prim.Native.Nat.{ℕ, zero, suc, ◌≤◌}
use mathlib.Core.Path.{◌≡◌, refl, sym, ◌∙◌, ap}
use mathlib.Core.Logic.Iff
use mathlib.Core.Logic.{◌↔◌}
use mathlib.Core.Bool.{true}
use mathlib.Core.List.{List}
use native.Mathlib.Omega.{arith}
use borrow.Author.Tests.{ne_eqb}
use lib.ListN.{length, drop}
use lib.Seq.{take-append_seam}
use Rattle.model.specs.Refusals.{refusal}
use Rattle.model.specs.Table.{table_refusal}
use Rattle.model.specs.Session.{State, fresh}
use Rattle.model.specs.Rules.{number_of}
use Rattle.model.specs.Image.{image, longest_image}
use Rattle.model.specs.Answers.{Outcome, outcome, look_at, settle}
use Rattle.model.specs.Calls.{Call, start, finishing_start, back, look, chosen, backed, own_checks, done, answer_to, call}
use Rattle.model.specs.Histories.{after, AnswerAlike, by_rules}
use Rattle.model.specs.Promises.{Lifelong}
use Rattle.model.specs.Editions.{EditionKept, NamesNoEdition}
use Rattle.model.proofs.Sound.{Sound, sound-decides}
use Rattle.model.proofs.Keeps.{settled, fresh-sound, after-sound}
use Rattle.model.proofs.ImageLaws.{image-short}
use Rattle.model.proofs.EditionLaws.{edition-kept, empty-edition, editions-apart}
use Rattle.model.proofs.NoHistoryLaws.{marked-done, marked-closed, close-clears, marks-apart}
use Rattle.model.proofs.Backs.{look-gives}
use Rattle.model.proofs.Promise3.{sound-lifelong, lifelong-one, images-tell}
use Rattle.session.specs.declared.Session.{Session}
use Rattle.session.specs.Stored.{view, hold, sound_stored, Ready}
use Rattle.session.proofs.StoredLaws.{view-hold, hold-sound, sound-view}
use Rattle.calls.specs.declared.Reply.{Reply}
use Rattle.calls.specs.StoredCalls.{reply, given_by, refusal_stored, call_stored, by_program}
use Rattle.calls.proofs.Settling.{call_settled}
use Rattle.calls.proofs.HistoryLaws.{call-held, alike-held, after-fresh, answers-fresh}
use Rattle.image_calls.specs.StoredSaves.{save_stored}
use Rattle.image_calls.proofs.Saving.{save-fits}
use Rattle.navigator.specs.Promise3.{reached, bytes_saved, KeepsPromise3}

-- ---- what save writes

module _ (tb : List ℕ) (c : Session) (ready : Ready tb c) (buffer : List ℕ) (long : longest_image ≤ length buffer) where
  save-accepts : ((save_stored tb c buffer).refusal ≡ 0) × (bytes_saved tb c buffer ≡ image (view c))
  save-accepts =
      let fits : length (image (view c)) ≤ length buffer = omega (arith, image-short tb (view c) (sound-view tb c ready.sound)) in
      rw (save-fits tb c buffer ready fits) (refl, take-append_seam (image (view c)) (drop (length (image (view c))) buffer))

-- ---- sound sessions, as they are stored

module _ (tb : List ℕ) (ok : table_refusal tb ≡ 0) where
  ready_held : (v : State ℕ) → Sound tb v → Ready tb (hold v)
  ready_held v h = record { good = ok; sound = hold-sound tb v h }

  pub saved-held : (v : State ℕ) → Sound tb v → (buffer : List ℕ) → longest_image ≤ length buffer → bytes_saved tb (hold v) buffer ≡ image v
  saved-held v h buffer long = rw ((save-accepts tb (hold v) (ready_held v h) buffer long).1, view-hold v)

  -- what save writes of two of them is equal exactly when they answer alike
  saved-tells : (v w : State ℕ) → Sound tb v → Sound tb w
      → (buffer buffer' : List ℕ) → longest_image ≤ length buffer → longest_image ≤ length buffer'
      → (bytes_saved tb (hold v) buffer ≡ bytes_saved tb (hold w) buffer') ↔ AnswerAlike (by_program tb) (hold v) (hold w)
  saved-tells v w h k buffer buffer' long long' =
      rw (saved-held v h buffer long, saved-held w k buffer' long')
      (Iff.trans (images-tell tb ok v w h k) (alike-held tb ok v w h k))

-- ---- editions

module _ (tb : List ℕ) (ok : table_refusal tb ≡ 0) where
  -- a call on a sound session is the rules' call on what it holds, stored
  call-viewed : (c : Session) (k : Call) → sound_stored tb c ≡ true → view (call_stored tb c k).session ≡ (call tb (view c) k).session
  call-viewed c k e =
      let h = sound-view tb c e in
      ap (λ (r : Reply). view r.session) (call_settled tb c k (record { good = ok; sound = e }))
      ∙ go (refusal (own_checks tb (view c) k))
      ∙ sym (ap (λ (o : Outcome). o.session) (settled tb ok (view c) h k))
    where
      go : (n : ℕ) → view (settle reply n c (hold (done tb (view c) k)) (answer_to tb (view c) k)).session
          ≡ (settle outcome n (view c) (done tb (view c) k) (answer_to tb (view c) k)).session
      go zero = view-hold (done tb (view c) k)
      go (suc n) = refl

  keeps-edition : (c : Session) (k : Call) → sound_stored tb c ≡ true → NamesNoEdition k → EditionKept (view c) (view (call_stored tb c k).session)
  keeps-edition c k e n = rw (call-viewed c k e) (edition-kept tb ok (view c) (sound-view tb c e) k n)

-- ---- sessions apart

module _ (tb : List ℕ) (ok : table_refusal tb ≡ 0) (v w : State ℕ) (h : Sound tb v) (k : Sound tb w) where
  -- what save writes of two sound sessions whose images differ
  saved-apart : (buffer buffer' : List ℕ) → longest_image ≤ length buffer → longest_image ≤ length buffer'
      → (image v ≡ image w → ⊥) → bytes_saved tb (hold v) buffer ≡ bytes_saved tb (hold w) buffer' → ⊥
  saved-apart buffer buffer' long long' differ e =
      differ (sym (saved-held tb ok v h buffer long) ∙ e ∙ saved-held tb ok w k buffer' long')

  editions : ((hold v).edition ≡ (hold w).edition → ⊥) → image v ≡ image w → ⊥
  unfolding hold
  editions differ = editions-apart tb v w ((sound-decides tb v).shows h) ((sound-decides tb w).shows k) differ

  marks : ((hold v).no_history ≡ (hold w).no_history → ⊥) → image v ≡ image w → ⊥
  unfolding hold
  marks differ = (marks-apart tb).images v w ((sound-decides tb v).shows h) ((sound-decides tb w).shows k) differ

  -- a look at each
  looks : ((hold v).no_history ≡ (hold w).no_history → ⊥)
      → (call_stored tb (hold v) look).answer ≡ (call_stored tb (hold w) look).answer → ⊥
  unfolding hold
  looks differ e = (marks-apart tb).looks v w differ (sym (looked v h) ∙ e ∙ looked w k)
    where
      looked : (u : State ℕ) → Sound tb u → (call_stored tb (hold u) look).answer ≡ look_at u
      looked u l = ap (λ (r : Reply). r.answer) (call-held tb ok u l look) ∙ ap (λ (o : Outcome). o.answer) (look-gives tb ok u l)

-- ---- the mark, by one call

view-mark : (c : Session) → (view c).no_history ≡ c.no_history
unfolding view
view-mark c = refl

module _ (tb : List ℕ) (c : Session) where
  marked_start : (b w : ℕ) → c.no_history ≡ 1 → (number_of (chosen tb (view c) b w).rule ≡ 7 → ⊥)
      → call_stored tb c (start b w) ≡ call_stored tb c (finishing_start b w)
  unfolding call_stored refusal_stored own_checks
  marked_start b w marked other =
      let m = view-mark c ∙ marked in
      let o = ne_eqb (number_of (chosen tb (view c) b w).rule) 7 other in
      rw (marked-done tb (view c) b w m o, marked-closed tb (view c) b w m o)

  back-clears : (call_stored tb c back).answer.refusal ≡ 0 → (call_stored tb c back).session.no_history ≡ 0
  unfolding call_stored hold done backed
  back-clears = go (refusal_stored tb c back)
    where
      go : (n : ℕ) → (given_by tb c back n).answer.refusal ≡ 0 → (given_by tb c back n).session.no_history ≡ 0
      go zero e = close-clears 1 0 (view c)
      go (suc n) e = absurd (omega (arith, e))

-- ---- the promise

lives : (tb : List ℕ) → table_refusal tb ≡ 0 → (cs : List Call) → Lifelong tb (view (reached tb cs))
lives tb ok cs =
    let v = after (by_rules tb) fresh cs in
    rw (after-fresh tb ok cs, view-hold v) (sound-lifelong tb v (after-sound tb ok fresh (fresh-sound tb) cs))

held-mark : (tb : List ℕ) (v : State ℕ) → Sound tb v → (hold v).n ≡ 0 → (hold v).no_history ≡ 0
unfolding hold
held-mark tb v h e = omega (arith, h.no_history.stands)

held-edition : (tb : List ℕ) (v : State ℕ) → Sound tb v → (hold v).n ≡ 0 → (hold v).edition ≡ 8
unfolding hold
held-edition tb v h e = empty-edition tb v h e

pub promise3 : (tb : List ℕ) → KeepsPromise3 tb
promise3 tb ok =
    let ruled : List Call → State ℕ = after (by_rules tb) fresh in
    let sound : (cs : List Call) → Sound tb (ruled cs) = after-sound tb ok fresh (fresh-sound tb) in
    record {
      sessions = after-fresh tb ok;
      answered = answers-fresh tb ok;
      lifelong = lives tb ok;
      affinity_zero = λ cs x e _. lifelong-one tb (view (reached tb cs)) (lives tb ok cs) x e;
      saves = λ cs buffer long.
          rw (after-fresh tb ok cs) (save-accepts tb (hold (ruled cs)) (ready_held tb ok (ruled cs) (sound cs)) buffer long).0;
      images_tell = λ cs ds buffer buffer' long long'.
          rw (after-fresh tb ok cs, after-fresh tb ok ds)
          (saved-tells tb ok (ruled cs) (ruled ds) (sound cs) (sound ds) buffer buffer' long long');
      empty_edition = λ cs. rw (after-fresh tb ok cs) (held-edition tb (ruled cs) (sound cs));
      keeps_edition = keeps-edition tb ok;
      editions_apart = λ cs ds buffer buffer' long long'.
          rw (after-fresh tb ok cs, after-fresh tb ok ds)
          (λ differ. apart cs ds buffer buffer' long long' (editions tb ok (ruled cs) (ruled ds) (sound cs) (sound ds) differ));
      marks_apart = λ cs ds buffer buffer' long long'.
          rw (after-fresh tb ok cs, after-fresh tb ok ds)
          (λ differ. apart cs ds buffer buffer' long long' (marks tb ok (ruled cs) (ruled ds) (sound cs) (sound ds) differ));
      marks_look = λ cs ds. rw (after-fresh tb ok cs, after-fresh tb ok ds) (looks tb ok (ruled cs) (ruled ds) (sound cs) (sound ds));
      empty_mark = λ cs. rw (after-fresh tb ok cs) (held-mark tb (ruled cs) (sound cs));
      marked_start = marked_start tb;
      back_clears = back-clears tb;
    }
  where
    apart : (cs ds : List Call) (buffer buffer' : List ℕ) → longest_image ≤ length buffer → longest_image ≤ length buffer'
        → let v = after (by_rules tb) fresh cs in
        let w = after (by_rules tb) fresh ds in
        (image v ≡ image w → ⊥) → bytes_saved tb (hold v) buffer ≡ bytes_saved tb (hold w) buffer' → ⊥
    apart cs ds =
        saved-apart tb ok (after (by_rules tb) fresh cs) (after (by_rules tb) fresh ds) (after-sound tb ok fresh (fresh-sound tb) cs)
        (after-sound tb ok fresh (fresh-sound tb) ds)
