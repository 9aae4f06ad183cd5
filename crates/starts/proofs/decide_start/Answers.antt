-- `starts::decide_start` meets its contract: what the start seeks, and what is decided by that.
use mathlib.Core.Path.{refl, ◌∙◌}
use native.Mathlib.Omega.{arith}
use Rattle.model.specs.Refusals.{refusal_in}
use Rattle.session.proofs.Known.{Sized}
use Rattle.starts.proofs.Seeking.{sought-inside, sought-planned, decided-found}
use Rattle.starts.proofs.decide_start.Goals as goal

pub offset_bounds-s-sought : goal.offset_bounds-s-sought
offset_bounds-s-sought g c =
    let a = c.args in
    let z : Sized a.s.now = record { tasks = c.lengths.ensures.tasks; each = c.lengths.ensures.each } in
    let i = sought-inside a.table.now a.s.now a.b a.word (refusal_in a.checked) z c.in_ok-sought.ensures in omega arith

pub bounds-s-sought : goal.bounds-s-sought
bounds-s-sought g c =
    let a = c.args in
    let z : Sized a.s.now = record { tasks = c.lengths.ensures.tasks; each = c.lengths.ensures.each } in
    sought-inside a.table.now a.s.now a.b a.word (refusal_in a.checked) z c.in_ok-sought.ensures

pub decide-requires : goal.decide-requires
decide-requires g c =
    let a = c.args in
    sought-planned a.table.now a.s.now a.b a.word (refusal_in a.checked) c.in_ok-sought.ensures refl

pub returns : goal.returns
returns g c =
    let a = c.args in
    let z : Sized a.s.now = record { tasks = c.lengths.ensures.tasks; each = c.lengths.ensures.each } in
    c.decide.ensures ∙ decided-found a.table.now a.s.now a.b a.word (refusal_in a.checked) z a.finishing c.in_ok-sought.ensures refl
