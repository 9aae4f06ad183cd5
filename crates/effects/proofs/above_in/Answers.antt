-- `effects::above_in` meets its contract: the search, where the change is a clear or a lift.
use Prim.Native.Nat.{◌≤◌}
use mathlib.Core.List.{[], ◌∷◌}
use Rattle.model.specs.declared.Change.{Change}
use Rattle.model.specs.Session.{most_height}
use Rattle.effects.specs.Carriable.{Alterable}
use Rattle.effects.proofs.Tags.{of-change}
use Rattle.effects.proofs.Changes.{blank-low}
use Rattle.effects.proofs.above_in.Goals as goal

pub topmost-requires : goal.topmost-requires
topmost-requires c =
    let a = c.args in
    of-change (λ d. Alterable d a.t → a.t.height ≤ most_height) a.change (Change.Clear ∷ Change.Lift ∷ []) (blank-low a.t, (blank-low a.t, tt))
    c.in-Clear.is c.requires
