-- The length that a container's type says: 8 kept panels.
use mathlib.Core.Path.{◌≡◌}
use mathlib.Core.List.{List}
use lib.ListN.{length}
use mir.Val.{Val}
use denote.Laws.{Is}
use denote.Struct.Laws as StructLaws
use Rattle.container.specs.declared.Container.{Container}
use Rattle.container.specs.contracts.Container as C
use Rattle.container.proofs.Container.TheLaws as C'

pub sized : (c : Container) (vs : List Val) → Is C.the_row c vs → length c.kept ≡ 8
sized c vs p =
    let f = (StructLaws.owed C.the_type C'.the_laws c vs p).1.1.0 in
    f.1.0.1
