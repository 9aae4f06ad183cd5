-- `places::four_roots` meets its contract, place by place.
use Rattle.places.specs.PlaceTests.{place_root}
use Rattle.places.proofs.four_roots.Goals as goal

pub returns : goal.returns
unfolding place_root
returns c =
    rw (
      c.place_root.ensures,
      c.place_root-2.ensures,
      c.place_root-3.ensures,
      c.place_root-4.ensures,
    )
