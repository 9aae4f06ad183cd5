-- `closing::without_screen` meets its contract: the screens above it come down by one, and the place on top is 0.
use Prim.Native.Nat.{◌-◌}
use mathlib.Core.Path.{◌≡◌, sym, ◌∙◌, ap}
use native.Mathlib.Omega.{arith}
use borrow.Author.Rules.{rules}
use lib.ListN.{length}
use Rattle.session.specs.declared.Task.{Task}
use Rattle.effects.proofs.Changes.{blank-low}
use Rattle.closing.proofs.Gaps.{screen-gone}
use Rattle.closing.proofs.without_screen.Goals as goal

pub closed_up-out-requires : goal.closed_up-out-requires
closed_up-out-requires c = let f = blank-low c.args.t c.requires.0 in omega arith

pub returns : goal.returns
returns c =
    let t = c.args.t in
    let l : length t.screens ≡ 32 = search rules in
    ap (λ (o : Task). record { root = o.root; height = t.height - 1; screens = o.screens }) c.closed_up-out.ensures
    ∙ sym (screen-gone t l c.requires.0 c.args.below c.requires.1)
