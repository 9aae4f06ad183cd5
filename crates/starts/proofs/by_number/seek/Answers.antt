-- `starts::by_number::seek` meets its contract: refused by the number, or as `starts::seek` has it.
use Rattle.starts.proofs.Numbers.{number-first, number-sought}
use Rattle.starts.proofs.by_number.seek.Goals as goal

pub seek-requires : goal.seek-requires
seek-requires g c = λ e. c.requires c.if-refusal-ne0.false

pub returns-then-refusal-ne0 : goal.returns-then-refusal-ne0
returns-then-refusal-ne0 g c = let a = c.args in number-first a.table.now a.s a.b a.word a.refusal c.if-refusal-ne0.true

pub returns : goal.returns
returns g c =
    let a = c.args in
    rw c.numbered.ensures (number-sought a.table.now a.s a.b a.word c.if-refusal-ne0.false c.seek.ensures)
