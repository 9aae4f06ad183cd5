-- The three steps, and the record that their states make.
use Prim.Native.Nat.{ℕ, ◌+◌, ◌%◌}
use mathlib.Core.Path.{◌≡◌, ◌∙◌, ap}
use native.Mathlib.Nat.{mod-lt}
use native.Mathlib.Omega.{arith}
use lib.Bits.{bit_and}
use Rattle.model.specs.Written.{written}
use Rattle.records.specs.Records.{bytes_of_record}
use Rattle.flags.proofs.Masks.{SEVEN, seven}
use Rattle.loads.specs.Generator.{step, next, record_from}
use Rattle.loads.proofs.write_record.Goals as goal

module _ (s : ℕ) {first second third : ℕ} (e₁ : first ≡ step s) (e₂ : second ≡ step first) (e₃ : third ≡ step second) where
  thrice : third ≡ next s
  unfolding next
  thrice = e₃ ∙ ap step (e₂ ∙ ap step e₁)

  made : (n : ℕ) → bytes_of_record (first % 5 + 1) (second % n) (bit_and third SEVEN) ≡ record_from n s
  unfolding record_from
  made n = rw (seven third, thrice, e₂, e₁)

pub overflow_cast-screen : goal.overflow_cast-screen
overflow_cast-screen c =
    omega (arith, mod-lt c.step-second.result {m = c.from.result} (omega (arith, c.requires.0)))

pub returns : goal.returns
returns c =
    let a = c.args in
    let e₁ = c.step-first.ensures in
    let e₂ = c.step-second.ensures in
    let e₃ = c.step-third.ensures in
    record {
      state = thrice a.state e₁ e₂ e₃;
      bytes = rw c.from.ensures at c.write.ensures.bytes ∙ ap (written a.out.now a.at) (made a.state e₁ e₂ e₃ a.n);
    }
