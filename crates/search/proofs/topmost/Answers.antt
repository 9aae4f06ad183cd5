-- The screens of the view stand top first.
use mathlib.Core.Path.{◌≡◌, ◌∙◌}
use borrow.Author.Rules.{rules}
use mathlib.Core.List.{reverse}
use lib.Dec.{eqb}
use lib.ListN.{take}
use Rattle.session.specs.Stored.{view_task}
use Rattle.search.proofs.Steps.{position-above}
use Rattle.search.proofs.topmost.Goals as goal

pub returns : goal.returns
unfolding view_task
returns c =
    let a = c.args in
    let same : c.map.result ≡ c.from_top.result = search rules in
    same ∙ c.from_top.ensures ∙ position-above (eqb a.b) (reverse (take a.t.height a.t.screens))
