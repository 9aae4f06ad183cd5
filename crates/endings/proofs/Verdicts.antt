-- The text of a verdict, by its two cases.
use mathlib.Core.Path.{◌≡◌, ap}
use mathlib.Core.Bool.{Bool, true, false}
use Rattle.std.specs.Prelude.{if◌then◌else◌}
use Rattle.difference.specs.declared.Difference.{Difference}
use Rattle.endings.specs.Verdict.{alike_text, apart_lines, verdict_text}

module _ (d : Difference) where
  pub text-alike : d.found ≡ false → verdict_text d ≡ alike_text
  unfolding verdict_text
  text-alike e = ap (λ (b : Bool). if b then apart_lines d else alike_text) e

  pub text-apart : d.found ≡ true → verdict_text d ≡ apart_lines d
  unfolding verdict_text
  text-apart e = ap (λ (b : Bool). if b then apart_lines d else alike_text) e
