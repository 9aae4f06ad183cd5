-- One call of a list: by its record, and by what the player's record does.
use Prim.Native.Nat.{ℕ, ◌+◌, ◌≤◌, ◌<◌}
use mathlib.Core.Path.{◌≡◌, refl, ◌∙◌, ap}
use mathlib.Core.Bool.{true, false}
use mathlib.Core.List.{List, [], ◌∷◌}
use native.Mathlib.Omega.{arith}
use lib.ListN.{length, get_or, take, drop}
use borrow.Author.Tests.{le-leb, lt-leb, leb-true, eq-eqb, ne_eqb}
use Rattle.std.specs.Prelude.{if◌then◌else◌}
use Rattle.model.specs.Answers.{refused}
use Rattle.model.specs.Calls.{Call, restore}
use Rattle.model.specs.Player.{Request, unplayable, asks, request_of}
use Rattle.records.specs.Records.{word_at}
use Rattle.session.specs.declared.Session.{Session}
use Rattle.calls.specs.declared.Reply.{Reply}
use Rattle.calls.specs.StoredCalls.{reply, call_stored, reply_stored, KeepsSound}
use Rattle.calls.proofs.Settling.{call-keeps}
use Rattle.navigator.specs.Records.{played_stored}
use Rattle.navigator.proofs.FirstRecord.{first-whole}
use Rattle.recording.specs.CallBytes.{call_asked, call_of, first_image, first_call, first_whole}
use Rattle.recording.specs.Counts.{reply_to}
use Rattle.recording.specs.OneCall.{called_stored, call_length}

-- what a record asks for, as a call or none
pub asked-reply : (tb : List ℕ) (c : Session) (q : Request) → reply_stored tb c q ≡ reply_to tb c (call_asked q)
asked-reply tb c unplayable = refl
asked-reply tb c (asks k) = refl

module _ (bytes : List ℕ) where
  -- where it is cut or whole
  pub record-cut : length bytes < 6 + first_image bytes → first_whole bytes ≡ false
  record-cut h = lt-leb (6 + first_image bytes) (length bytes) h

  pub record-whole : 6 + first_image bytes ≤ length bytes → first_whole bytes ≡ true
  record-whole h = le-leb (6 + first_image bytes) (length bytes) h

  -- a whole one has six bytes
  pub whole-six : first_whole bytes ≡ true → 6 + first_image bytes ≤ length bytes
  whole-six e = leb-true (6 + first_image bytes) (length bytes) e

  -- how many bytes it takes
  pub length_cut : first_whole bytes ≡ false → length bytes ≡ call_length bytes
  unfolding call_length
  length_cut e = rw e

  pub length_whole : first_whole bytes ≡ true → {n : ℕ} → n ≡ 6 + first_image bytes → n ≡ call_length bytes
  unfolding call_length
  length_whole e is = rw (e, is)

module _ (tb : List ℕ) (c : Session) (bytes : List ℕ) where
  pub called-cut : first_whole bytes ≡ false → {r : Reply} → r ≡ reply c (refused 9) → r ≡ called_stored tb c bytes
  unfolding called_stored
  called-cut e r = rw e r

  module _ (whole : first_whole bytes ≡ true) where
    pub called-restore : get_or bytes 0 0 ≡ 6 → {m : ℕ} → m ≡ first_image bytes
        → {r : Reply} → r ≡ call_stored tb c (restore (take m (drop 6 bytes))) → r ≡ called_stored tb c bytes
    unfolding called_stored call_of
    called-restore k is e = rw (whole, eq-eqb (get_or bytes 0 0) 6 k, ← is) e

    pub called-other : (get_or bytes 0 0 ≡ 6 → ⊥) → {r : Reply} → r ≡ played_stored tb c bytes → r ≡ called_stored tb c bytes
    unfolding called_stored call_of played_stored
    called-other k e =
        let six : 6 ≤ length bytes = omega (arith, leb-true (6 + first_image bytes) (length bytes) whole) in
        rw (whole, ne_eqb (get_or bytes 0 0) 6 k)
        (e ∙ ap (reply_stored tb c) (first-whole bytes six) ∙ asked-reply tb c (request_of (get_or bytes 0 0) (get_or bytes 1 0) (word_at bytes 0)))

  pub called-keeps : {r : Reply} → r ≡ called_stored tb c bytes → KeepsSound tb c r.session
  unfolding called_stored
  called-keeps e = rw e (go (if first_whole bytes then first_call bytes else []))
    where
      go : (ks : List Call) → KeepsSound tb c (reply_to tb c ks).session
      go [] g s = s
      go (k ∷ ks) g s = call-keeps tb c k g s
