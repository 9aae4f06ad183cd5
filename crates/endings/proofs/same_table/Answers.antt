-- The parts that are lent are the tables.
use mathlib.Core.Path.{◌≡◌}
use mathlib.Core.Bool.{true}
use mathlib.Core.Logic.{◌↔◌}
use lib.ListN.{take}
use borrow.Author.Rules.{rules}
use Rattle.endings.proofs.Tables.{table-part}
use Rattle.endings.proofs.same_table.Goals as goal

pub returns : goal.returns
returns c =
    let a = c.args in
    let i = c.table_end-i in
    let j = c.table_end-j in
    let h : (c.eq.result ≡ true) ↔ (take i.result a.first.now ≡ take j.result a.second.now) = search rules in
    rw (table-part a.first.now i.result i.ensures.length, table-part a.second.now j.result j.ensures.length) at h
