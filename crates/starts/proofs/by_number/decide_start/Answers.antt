-- `starts::by_number::decide_start` meets its contract: refused by the number, or as `starts::decide_start` has it.
use mathlib.Core.Path.{sym, ◌∙◌, ap}
use Prim.Native.Nat.{ℕ}
use Rattle.model.specs.Refusals.{refusal}
use Rattle.model.specs.Flags.{flags_of}
use Rattle.starts.specs.Checks.{start_entry}
use Rattle.starts.specs.Steps.{or_else, decided_stored}
use Rattle.starts.proofs.Numbers.{decided-first}
use Rattle.starts.proofs.by_number.decide_start.Goals as goal

pub decide_start-requires : goal.decide_start-requires
decide_start-requires g c = λ e. c.requires c.if-refusal-eq0.true

pub returns-then-refusal-eq0 : goal.returns-then-refusal-eq0
returns-then-refusal-eq0 g c =
    let a = c.args in
    c.numbered.ensures ∙ c.decide_start.ensures
    ∙ ap (λ (k : ℕ). decided_stored (or_else k (refusal (start_entry a.table.now a.s.n a.b a.word))) a.table.now a.s a.b (flags_of a.word) a.finishing)
    (sym c.if-refusal-eq0.true)

pub returns : goal.returns
returns g c =
    let a = c.args in
    decided-first a.refusal _ c.if-refusal-eq0.false a.table.now a.s a.b (flags_of a.word) a.finishing
