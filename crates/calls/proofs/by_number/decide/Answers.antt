-- `calls::by_number::decide` meets its contract: refused with 9, by the number, or as `calls::decide` has it.
use Prim.Native.Nat.{ℕ, zero, suc}
use mathlib.Core.Path.{◌≡◌, refl, sym, ◌∙◌, ap}
use mathlib.Core.List.{List}
use Rattle.std.specs.Prelude.{Option, Some, None, Err}
use Rattle.model.specs.Refusals.{refusal_in}
use Rattle.session.specs.declared.Session.{Session}
use Rattle.records.specs.declared.Asked.{Asked}
use Rattle.checks.proofs.SharedLaws.{shared-passed}
use Rattle.calls.specs.RecordPlans.{decided_for}
use Rattle.calls.proofs.by_number.decide.Goals as goal

-- what asks for a call is refused by the number
refused-before : (k : ℕ) → (k ≡ 0 → ⊥) → (a : Option Asked) → (a ≡ None → ⊥) → (tb : List ℕ) (c : Session) (b w : ℕ)
    → Err k ≡ decided_for a tb c k b w
refused-before zero n a s tb c b w = absurd (n refl)
refused-before (suc k) n None s tb c b w = absurd (s refl)
refused-before (suc k) n (Some Asked.Launch) s tb c b w = refl
refused-before (suc k) n (Some Asked.Start) s tb c b w = refl
refused-before (suc k) n (Some Asked.FinishingStart) s tb c b w = refl
refused-before (suc k) n (Some Asked.Back) s tb c b w = refl
refused-before (suc k) n (Some Asked.Look) s tb c b w = refl

pub passed-requires : goal.passed-requires
passed-requires c = c.requires c.if-refusal-ne0.false

pub returns-then-refusal-ne0 : goal.returns-then-refusal-ne0
returns-then-refusal-ne0 c =
    let a = c.args in
    refused-before a.refusal c.if-refusal-ne0.true a.r.asked (λ e. let n = rw e at c.if-is_none.ensures in let f = c.if-is_none.false in cc) a.table.now a.s a.r.screen a.r.word

pub returns : goal.returns
returns c =
    let a = c.args in
    let ready = c.requires c.if-refusal-ne0.false in
    let none : refusal_in c.passed.result.refused ≡ 0 =
    c.passed.result.says ∙ rw (c.passed.ensures.table, c.passed.ensures.session) (shared-passed a.table.now a.s ready.good ready.sound) in
    c.numbered.ensures ∙ rw (c.passed.ensures.table, c.passed.ensures.session, none) at c.decide.ensures
    ∙ ap (λ (k : ℕ). decided_for a.r.asked a.table.now a.s k a.r.screen a.r.word) (sym c.if-refusal-ne0.false)
