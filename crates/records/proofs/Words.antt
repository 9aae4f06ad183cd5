-- The bytes of a word make it up again.
use Prim.Native.Nat.{ℕ, ◌/◌, ◌%◌}
use mathlib.Core.Path.{◌≡◌}
use native.Mathlib.Omega.{arith}
use Rattle.model.specs.Player.{word_of}

pub word_back : (w : ℕ) → word_of (w / 0x1000000) (w / 0x10000 % 0x100) (w / 0x100 % 0x100) (w % 0x100) ≡ w
word_back w = omega arith
