-- Save on a stored session, by what its checks said; and what the bytes are that it wrote.
use Prim.Native.Nat.{ℕ, zero, suc, ◌≤◌, ◌<◌}
use mathlib.Core.Path.{◌≡◌, refl, ◌∙◌, ap}
use mathlib.Core.List.{List, []}
use native.Mathlib.Omega.{arith}
use lib.ListN.{length, take, drop}
use lib.Seq.{take-append_seam}
use borrow.Author.Tests.{lt-ltb, le-ltb}
use Rattle.model.specs.Refusals.{refusal}
use Rattle.model.specs.Answers.{look_at}
use Rattle.model.specs.Image.{image}
use Rattle.model.specs.Calls.{restore, checks_in, own_checks, closed_of, done, Saved, save_checks, settle_save}
use Rattle.model.proofs.RefusalLaws.{refusal-applies, refusal-passes, refusal-append-refused, checks-own}
use Rattle.model.proofs.Sound.{sound-decides}
use Rattle.model.proofs.ImageLaws.{images-exact, image_injective}
use Rattle.session.specs.declared.Session.{Session}
use Rattle.session.specs.Stored.{view, sound_stored, Ready}
use Rattle.session.proofs.Known.{Sized}
use Rattle.session.proofs.StoredLaws.{held, sound-blank, sound-view}
use Rattle.image_calls.specs.declared.SaveReply.{SaveReply}
use Rattle.checks.specs.Shared.{shared_refusal}
use Rattle.calls.specs.StoredCalls.{reply}
use Rattle.image_calls.specs.StoredSaves.{saved, save_stored, BroughtBack, NoOtherHas}
use Rattle.checks.proofs.SharedLaws.{checks-ready}
use Rattle.calls.proofs.Settling.{call_settled}

abbrev refused_save : ℕ → List ℕ → Saved
refused_save k d = record { refusal = k; length = 0; buffer = d }

module _ (tb : List ℕ) (c : Session) (d : List ℕ) where
  -- refused by one of the shared checks
  pub save-refused : (n : ℕ) → shared_refusal tb c ≡ n → (n ≡ 0 → ⊥) → save_stored tb c d ≡ refused_save n d
  unfolding save_stored shared_refusal
  save-refused zero e z = absurd (z refl)
  save-refused (suc n) e z =
      ap (λ (r : ℕ). settle_save r (view c) d)
      (refusal-append-refused n (checks_in tb (sound_stored tb c) []) (save_checks (view c) d) e)

  -- only 8 is left
  save-settled : Ready tb c → (n : ℕ) → refusal (save_checks (view c) d) ≡ n → save_stored tb c d ≡ settle_save n (view c) d
  unfolding save_stored
  save-settled h n e = rw (h.sound, checks-own tb (save_checks (view c) d) h.good, e)

  pub save-short : Ready tb c → length d < length (image (view c)) → save_stored tb c d ≡ refused_save 8 d
  save-short h l = save-settled h 8 (refusal-applies 8 _ [] (lt-ltb (length d) (length (image (view c))) l))

  pub save-fits : Ready tb c → length (image (view c)) ≤ length d → save_stored tb c d ≡ settle_save 0 (view c) d
  unfolding refusal
  save-fits h l = save-settled h 0 (refusal-passes 8 _ [] (le-ltb (length d) (length (image (view c))) l))

  -- ---- the image that it writes

  -- the image brings its session back
  brings-back : Ready tb c → Sized c → BroughtBack tb c (image (view c))
  unfolding own_checks closed_of done look_at
  brings-back h z t e =
      let s = (sound-decides tb (view c)).shows (sound-view tb c h.sound) in
      let k = (images-exact tb).accepts (view c) s in
      let v = (images-exact tb).brings_back (view c) s in
      call_settled tb t (restore (image (view c))) (record { good = h.good; sound = e })
      ∙ rw (k, v) (ap (λ (o : Session). reply o (look_at (view c))) (held c z (sound-blank tb c h.sound)))

  -- and is no other's
  no-other-has : Ready tb c → NoOtherHas tb c (image (view c))
  no-other-has h t e i = image_injective tb (view t) (view c) (sound-view tb t e) (sound-view tb c h.sound) i

  module _ (z : Sized c) (r : SaveReply) (d' : List ℕ) (e : saved r d' ≡ save_stored tb c d) where
    -- an accepted save wrote the image of a sound session
    accepted : r.refusal ≡ 0 → Ready tb c × (take r.length d' ≡ image (view c))
    unfolding save_stored
    accepted f = go (refusal (checks_in tb (sound_stored tb c) (save_checks (view c) d))) refl e
      where
        go : (n : ℕ) → refusal (checks_in tb (sound_stored tb c) (save_checks (view c) d)) ≡ n → saved r d' ≡ settle_save n (view c) d
            → Ready tb c × (take r.length d' ≡ image (view c))
        go zero k g =
            let l = ap (λ (o : Saved). o.length) g in
            let b = ap (λ (o : Saved). o.buffer) g in
            (checks-ready tb c (save_checks (view c) d) k, rw (l, b) (take-append_seam (image (view c)) (drop (length (image (view c))) d)))
        go (suc n) k g = absurd (omega (arith, f, ap (λ (o : Saved). o.refusal) g))

    -- what a save gives, with the clauses of its contract
    pub save-gives : (saved r d' ≡ save_stored tb c d)
        × ((r.refusal ≡ 0 → BroughtBack tb c (take r.length d')) × (r.refusal ≡ 0 → NoOtherHas tb c (take r.length d')))
    save-gives = (
      e,
      (
        λ f. let a = accepted f in rw a.1 (brings-back a.0 z),
        λ f. let a = accepted f in rw a.1 (no-other-has a.0),
      ),
    )
