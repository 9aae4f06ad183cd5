-- A fresh session where the table is refused; else the session after the list. Both are sound, so the lifelong rules hold.
use mathlib.Core.Path.{◌≡◌, sym, ◌∙◌}
use Rattle.model.specs.Table.{table_refusal}
use Rattle.model.proofs.RefusalLaws.{number-some}
use Rattle.navigator.proofs.Promise3Laws.{promise3}
use Rattle.recording.specs.Replay.{replayed}
use Rattle.recording.proofs.Endings.{fresh-stored, fresh-screens, replayed-reached, replayed-refused, replayed-sound, stored-lifelong, every}
use Rattle.recording.proofs.replay.Goals as goal

pub returns-in-Err : goal.returns-in-Err
returns-in-Err c =
    let a = c.args in
    let tb = a.table.now in
    let number = c.number.ensures ∙ c.in-Err.ensures in
    let fresh = c.fresh-fresh in
    let bad : table_refusal tb ≡ 0 → ⊥ = λ z. number-some c.in-Err.refused (c.in-Err.ensures ∙ z) in
    let e : fresh.result ≡ replayed tb a.calls.now = fresh.ensures ∙ sym (replayed-refused tb bad a.calls.now) in
    let s = rw (← e) at (replayed-sound tb a.calls.now) in
    record { refusal = number; session = e; called = λ z. absurd (bad z); sound = s; lifelong = stored-lifelong tb fresh.result s; every = every; promise = promise3 tb }

pub after_calls-done-requires : goal.after_calls-done-requires
after_calls-done-requires c =
    let a = c.args in (
      record {
        good = sym c.in_default.ensures;
        sound = rw c.fresh-fresh.ensures (fresh-stored a.table.now);
      },
      rw c.fresh-fresh.ensures fresh-screens,
    )

pub returns : goal.returns
returns c =
    let a = c.args in
    let tb = a.table.now in
    let ok : table_refusal tb ≡ 0 = sym c.in_default.ensures in
    let called = rw c.fresh-fresh.ensures at c.after_calls-done.ensures.session in
    let e : c.after_calls-done.result.session ≡ replayed tb a.calls.now = called ∙ sym (replayed-reached tb ok a.calls.now) in
    let s = rw (← e) at (replayed-sound tb a.calls.now) in
    record { refusal = sym ok; session = e; called = λ z. called; sound = s; lifelong = stored-lifelong tb c.after_calls-done.result.session s; every = every; promise = promise3 tb }
