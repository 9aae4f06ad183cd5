-- Texts as bytes.
use Rattle.std.specs.Prelude.{ℕ, List, [], ◌∷◌}
use Prim.Native.Char.{code}
use Prim.Native.String.{String, [] as no_text, ◌∷◌ as ◌before◌}

-- a text of ASCII characters
abbrev pub ascii : String → List ℕ
ascii no_text = []
ascii (c before t) = code c ∷ ascii t
