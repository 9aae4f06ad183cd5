-- Three zeros where the table is refused; else what was counted along the list, and what stands after it.
use mathlib.Core.Path.{◌≡◌, refl, sym, ◌∙◌}
use native.Mathlib.Omega.{arith}
use Rattle.model.specs.Table.{table_refusal}
use Rattle.model.proofs.RefusalLaws.{number-some}
use Rattle.model.proofs.Balance.{screens-balance}
use Rattle.navigator.proofs.Promise3Laws.{promise3}
use Rattle.recording.specs.CallBytes.{calls_in}
use Rattle.recording.proofs.Endings.{fresh-stored, fresh-screens}
use Rattle.recording.proofs.Summing.{counted-blank, counted-screens, counted-balance}
use Rattle.recording.proofs.count_screens.Goals as goal

pub returns-in-Err : goal.returns-in-Err
returns-in-Err c =
    let tb = c.args.table.now in
    let number = c.number.ensures ∙ c.in-Err.ensures in
    let bad : table_refusal tb ≡ 0 → ⊥ = λ z. number-some c.in-Err.refusal (c.in-Err.ensures ∙ z) in
    record {
      refusal = number;
      counts = λ z. absurd (bad z);
      refused = λ b. (refl, refl, refl);
      balance = λ made. (omega arith, refl);
      balances = screens-balance tb;
      promise = promise3 tb;
    }

pub after_calls-done-requires : goal.after_calls-done-requires
after_calls-done-requires c = (
  record {
    good = sym c.in_default.ensures;
    sound = rw c.fresh.ensures (fresh-stored c.args.table.now);
  },
  rw c.fresh.ensures fresh-screens,
)

pub standing-requires : goal.standing-requires
standing-requires c =
    let ok : table_refusal c.args.table.now ≡ 0 = sym c.in_default.ensures in
    counted-blank _ ok _ c.after_calls-done.result (rw c.fresh.ensures at c.after_calls-done.ensures)

pub returns : goal.returns
returns c =
    let tb = c.args.table.now in
    let ks = calls_in c.args.calls.now in
    let done = c.after_calls-done in
    let ok : table_refusal tb ≡ 0 = sym c.in_default.ensures in
    let counted = counted-screens tb ok ks done.result (rw c.fresh.ensures at done.ensures) c.standing.result c.standing.ensures in
    record {
      refusal = sym ok;
      counts = λ z. counted;
      refused = λ bad. absurd (bad ok);
      balance = counted-balance tb ok ks _ counted;
      balances = screens-balance tb;
      promise = promise3 tb;
    }
