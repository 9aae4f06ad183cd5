-- What is said of two recordings' endings, byte for byte, in ASCII.
use Rattle.std.specs.Prelude.{ℕ, zero, suc, ◌+◌, ◌*◌, List, ◌++◌, length, if◌then◌else◌}
use Rattle.model.specs.Texts.{ascii}
use Rattle.model.specs.Player.{decimal, line_of, longest_line}
use Rattle.difference.specs.declared.Difference.{Difference}

abbrev pub alike_text : List ℕ
alike_text = ascii "alike\n"

abbrev pub apart_text : List ℕ
apart_text = ascii "apart after "

abbrev pub backs_text : List ℕ
backs_text = ascii " Backs\n"

-- the player's kind of the last record of a look and then k Backs: "4 Back, 5 look"
abbrev pub last_kind : ℕ → ℕ
last_kind zero = 5
last_kind (suc k) = 4

-- how many Backs come before the answers that differ, and the player's lines for these
abbrev pub apart_lines : Difference → List ℕ
apart_lines d =
    apart_text ++ decimal d.backs ++ backs_text
    ++ line_of (last_kind d.backs) d.first ++ line_of (last_kind d.backs) d.second

unfoldable pub verdict_text : Difference → List ℕ
verdict_text d = if d.found then apart_lines d else alike_text

-- no verdict is longer: a number of Backs has up to three digits
abbrev pub longest_verdict : ℕ
longest_verdict = length apart_text + 3 + length backs_text + 2 * longest_line
