-- `rules::holds_screen` meets its contract: some stand above the topmost, or none, where there is one.
use Prim.Native.Nat.{ℕ, zero, suc}
use mathlib.Core.Path.{◌≡◌, refl, ◌∙◌, ap}
use Rattle.std.specs.Prelude.{is_some}
use lib.Dec.{eqb}
use Rattle.model.specs.Lists.{find, is_place}
use Rattle.model.specs.Search.{holds}
use Rattle.session.specs.Stored.{view_task}
use Rattle.search.specs.Above.{above_of}
use Rattle.rules.proofs.holds_screen.Goals as goal

some-above : (p : ℕ) → is_some (above_of p) ≡ is_place p
some-above zero = refl
some-above (suc p) = refl

pub returns : goal.returns
unfolding holds
returns c = c.is_some.ensures ∙ ap is_some c.topmost.ensures ∙ some-above (find (eqb c.args.b) (view_task c.args.t).screens)
