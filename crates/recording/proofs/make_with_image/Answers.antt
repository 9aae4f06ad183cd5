-- A restore, or what the player's record does.
use Prim.Native.Nat.{ℕ, ◌-◌, ◌<◌}
use mathlib.Core.Path.{◌≡◌, sym, ◌∙◌, ap}
use native.Mathlib.Omega.{arith}
use mathlib.Core.List.{List}
use lib.ListN.{length, get_or, drop, length-drop}
use borrow.Author.Tests.{eq-eqb, ne_eqb}
use Rattle.model.specs.Player.{request_of}
use Rattle.records.specs.Records.{word_at, request_for}
use Rattle.std.proofs.lemmas.List.{take_all}
use Rattle.model.specs.Calls.{restore}
use Rattle.calls.specs.StoredCalls.{call_stored, reply_stored, created_stored}
use Rattle.navigator.proofs.FirstRecord.{first_read, first-whole}
use Rattle.recording.specs.CallBytes.{call_of}
use Rattle.recording.proofs.OneCall.{asked-reply}
use Rattle.recording.proofs.Creating.{asked-created, restore-creates}
use Rattle.recording.proofs.make_with_image.Goals as goal

pub returns-then-bytes-eq6 : goal.returns-then-bytes-eq6
unfolding call_of
returns-then-bytes-eq6 c =
    let a = c.args in
    let l = a.bytes.now in
    let d = length-drop 6 l in
    rw (eq-eqb (get_or l 0 0) 6 c.if-bytes-eq6.true) (record {
      reply = (rw (c.passed-on.ensures.table, c.passed-on.ensures.session) at c.restore-reply.ensures) ∙ ap (λ (m : List ℕ). call_stored a.table.now a.s.now (restore m)) (take_all (length l - 6) (drop 6 l) (omega arith));
      created = restore-creates a.table.now a.s.now c.requires.ready (drop 6 l);
    })

-- what the record that was read asks for
request : (c : goal.After-make)
    → let l = c.args.bytes.now in request_for c.read.result ≡ request_of (get_or l 0 0) (get_or l 1 0) (word_at l 0)
request c =
    let l = c.args.bytes.now in
    let some : 0 < length l = omega (arith, c.requires.whole) in
    sym (first_read l some c.read.ensures) ∙ first-whole l c.requires.whole

pub returns : goal.returns
unfolding call_of
returns c =
    let a = c.args in
    let l = a.bytes.now in
    let q = request_of (get_or l 0 0) (get_or l 1 0) (word_at l 0) in
    rw (ne_eqb (get_or l 0 0) 6 c.if-bytes-eq6.false) (record {
      reply = (rw (c.passed-on.ensures.table, c.passed-on.ensures.session) at c.make.ensures.reply) ∙ ap (reply_stored a.table.now a.s.now) (request c) ∙ asked-reply a.table.now a.s.now q;
      created = (rw (c.passed-on.ensures.table, c.passed-on.ensures.session) at c.make.ensures.created) ∙ ap (created_stored a.table.now a.s.now) (request c) ∙ asked-created a.table.now a.s.now c.requires.ready q;
    })
