-- There is room for the text of a block: each record has the longest that it can have.
use Prim.Native.Nat.{ℕ, ◌*◌, ◌≤◌}
use mathlib.Core.Path.{◌≡◌}
use mathlib.Core.Bool.{true}
use native.Mathlib.Omega.{arith}
use lib.Dec.{leb}
use borrow.Author.Tests.{leb-true}
use Rattle.model.specs.Player.{longest_line}
use Rattle.model.specs.Explained.{longest_explained}
use Rattle.reading.specs.Blocks.{most_records}

-- n records; `long` is the buffer's length, which the code says is `room`
module _ {n room long : ℕ} (few : n ≤ most_records) (e : room ≡ long) where
  pub lines_fit : leb (longest_line * most_records) room ≡ true → longest_line * n ≤ long
  lines_fit t = let b = leb-true (longest_line * most_records) room t in omega arith

  pub reasons-fit : leb (longest_explained * most_records) room ≡ true → longest_explained * n ≤ long
  reasons-fit t = let b = leb-true (longest_explained * most_records) room t in omega arith
