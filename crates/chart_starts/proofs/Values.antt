-- A class and four values can be told from their sum; the class decides the group.
use Prim.Native.Nat.{ℕ, ◌+◌, ◌*◌, ◌≤◌, ◌<◌}
use mathlib.Core.Path.{◌≡◌}
use mathlib.Core.Bool.{Bool}
use native.Mathlib.Omega.{arith}
use lib.Dec.{eqb}
use borrow.Author.Tests.{ne_eqb}
use Rattle.model.specs.declared.Group.{Group}
use Rattle.model.specs.Flags.{bit}
use Rattle.flag_chart.specs.Chart.{worth}
use Rattle.flag_chart.proofs.IndexLaws.{digit, worth-digit, digit-most, digit-test}
use Rattle.chart_starts.specs.Decoding.{class_in, group_in, asks_in}

record Sum (e k x y z w : ℕ) : Type 0 where
  pub sum : e ≡ k + 8 * x + 16 * y + 32 * z + 64 * w
  pub small : (k < 8) × (x ≤ 1) × (y ≤ 1) × (z ≤ 1) × (w ≤ 1)

module _ {e k x y z w : ℕ} (s : Sum e k x y z w) where
  class-in : class_in e ≡ k
  class-in = omega arith

  eight-in : bit 8 e ≡ x
  eight-in = omega arith

  sixteen-in : bit 16 e ≡ y
  sixteen-in = omega arith

  thirty-two-in : bit 32 e ≡ z
  thirty-two-in = omega arith

  sixty-four-in : bit 64 e ≡ w
  sixty-four-in = omega arith

module _ (k : ℕ) (low : k < 8) (single ctp ctk rtf : Bool) where
  abbrev summed : ℕ
  summed = k + worth 8 single + worth 16 ctp + worth 32 ctk + worth 64 rtf

  summed-digits : Sum summed k (digit single) (digit ctp) (digit ctk) (digit rtf)
  summed-digits =
      record {
        sum = rw (worth-digit 8 single, worth-digit 16 ctp, worth-digit 32 ctk, worth-digit 64 rtf);
        small = (low, digit-most single, digit-most ctp, digit-most ctk, digit-most rtf);
      }

  pub summed-class : class_in summed ≡ k
  summed-class = class-in summed-digits

  pub summed-asks : asks_in summed ≡ record { single = single; new_task = eqb k 4; ctp = ctp; rtf = rtf; ctk = ctk }
  summed-asks =
      let d = summed-digits in
      rw (digit-test single (eight-in d), digit-test ctp (sixteen-in d), digit-test ctk (thirty-two-in d), digit-test rtf (sixty-four-in d), class-in d)

-- ---- the group

module _ (e : ℕ) where
  pub class-one : class_in e ≡ 1 → Group.Instance ≡ group_in e
  class-one h = rw h

  pub class-two : class_in e ≡ 2 → Group.Task ≡ group_in e
  class-two h = rw h

  pub class-three : class_in e ≡ 3 → Group.NotApart ≡ group_in e
  class-three h = rw h

  pub class-other : (class_in e ≡ 1 → ⊥) → (class_in e ≡ 2 → ⊥) → (class_in e ≡ 3 → ⊥) → Group.Apart ≡ group_in e
  class-other f g h = rw (ne_eqb _ 1 f, ne_eqb _ 2 g, ne_eqb _ 3 h)
