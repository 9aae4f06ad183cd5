-- `Task::top` meets its contract: the last byte below the height is the first screen of the view.
use Prim.Native.Nat.{◌-◌}
use mathlib.Core.Path.{◌≡◌, sym}
use native.Mathlib.Omega.{arith}
use borrow.Author.Rules.{rules}
use lib.ListN.{length}
use Rattle.session.proofs.TaskLaws.{view-screen}
use Rattle.session.proofs.Task.top.Goals as goal

pub returns : goal.returns
returns c =
    let t = c.args.self in
    let l : length t.screens ≡ 32 = search rules in
    rw c.from.ensures (sym (view-screen t (omega arith) (t.height - 1) 0 (omega arith)))
