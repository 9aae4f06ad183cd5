-- The first record in some bytes, by what is read there; and that playing it keeps a session sound.
use Prim.Native.Nat.{ℕ, ◌≤◌, ◌<◌}
use mathlib.Core.Path.{◌≡◌, refl, ◌∙◌, ap}
use mathlib.Core.List.{List, [], ◌∷◌}
use native.Mathlib.Omega.{arith}
use lib.ListN.{length, get_or}
use borrow.Author.Tests.{le-ltb}
use Rattle.model.specs.Answers.{refused}
use Rattle.model.specs.Player.{Request, unplayable, asks, request_of, records_in}
use Rattle.session.specs.declared.Session.{Session}
use Rattle.records.specs.declared.Record.{Record}
use Rattle.records.specs.Records.{word_at, request_for, record_at}
use Rattle.records.proofs.Asking.{asked-request}
use Rattle.records.proofs.Inputs.{behind-one}
use Rattle.calls.specs.declared.Reply.{Reply}
use Rattle.calls.specs.StoredCalls.{reply, reply_stored, KeepsSound}
use Rattle.calls.proofs.Settling.{call-keeps}
use Rattle.navigator.specs.Records.{first_asked, played_stored}

pub first_read : (l : List ℕ) → 0 < length l → {r : Record} → r ≡ record_at l 0 → first_asked (records_in l) ≡ request_for r
first_read l h e = ap first_asked (behind-one l 0 h e refl)

-- a whole one, by its six bytes
pub first-whole : (l : List ℕ) → 6 ≤ length l → first_asked (records_in l) ≡ request_of (get_or l 0 0) (get_or l 1 0) (word_at l 0)
first-whole l h = first_read l (omega arith) refl ∙ rw (le-ltb (length l) 6 h) (asked-request (get_or l 1 0) (word_at l 0) (get_or l 0 0))

first-none : (l : List ℕ) → length l ≡ 0 → first_asked (records_in l) ≡ unplayable
unfolding records_in
first-none [] h = refl
first-none (k ∷ ks) h = absurd (omega arith)

module _ (tb : List ℕ) (c : Session) (l : List ℕ) where
  pub played-read : 0 < length l → {r : Record} → r ≡ record_at l 0 → {x : Reply} → x ≡ reply_stored tb c (request_for r) → x ≡ played_stored tb c l
  unfolding played_stored
  played-read h e f = rw (first_read l h e) f

  pub played-none : length l ≡ 0 → {x : Reply} → x ≡ reply c (refused 9) → x ≡ played_stored tb c l
  unfolding played_stored
  played-none h e = rw (first-none l h) e

  pub played-keeps : {r : Reply} → r ≡ played_stored tb c l → KeepsSound tb c r.session
  unfolding played_stored
  played-keeps e = rw e (go (first_asked (records_in l)))
    where
      go : (q : Request) → KeepsSound tb c (reply_stored tb c q).session
      go unplayable g s = s
      go (asks k) g s = call-keeps tb c k g s
