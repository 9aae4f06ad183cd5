-- What the rest of the text makes of the number so far is what the text stands for.
use Rattle.std.proofs.Common.{◌≡◌, ◌≤◌, drop}
use Rattle.load_files.specs.Numbers.{most_asked, number_from, number_in}
use Rattle.load_files.proofs.number_in.Given as goal

abbrev pub invariant-loop-byte : goal.invariant-loop-byte
invariant-loop-byte l = (l.value ≤ most_asked) × (number_in l.text ≡ number_from l.value (drop l.byte-index l.text))
