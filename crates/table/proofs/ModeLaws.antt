-- Which bytes name a mode, and which mode is named.
use Prim.Native.Nat.{ℕ, zero, suc, ◌<◌}
use mathlib.Core.Path.{◌≡◌, refl, sym}
use mathlib.Core.Bool.{false}
use native.Mathlib.Omega.{arith}
use lib.Dec.{leb, eqb}
use Rattle.std.specs.Prelude.{Some, None, Result, Ok, Err}
use Rattle.std.specs.Option.{is_some, option_eq}
use Rattle.std.specs.Result.{result_ok}
use Rattle.model.specs.Table.{single_top, single_task, single_instance}
use Rattle.model.proofs.Logic.{leb-decides, eqb-decides, refuted}
use Rattle.table.specs.contracts.screen_mode.ModePartialEq.TheImpl.{eq-value}
use Rattle.table.specs.declared.screen_mode.Mode.{Mode}
use Rattle.table.specs.declared.screen_mode.UnknownMode.{UnknownMode}
use Rattle.table.specs.Modes.{mode_named, Decodes}

unnamed : (b : ℕ) → single_instance < b → mode_named b ≡ None
unnamed b h = rw (other 0 (omega arith), other 1 (omega arith), other 2 (omega arith), other 3 (omega arith))
  where
    other : (k : ℕ) → k < b → eqb b k ≡ false
    other k l = refuted (eqb b k) (eqb-decides b k) (λ e. omega arith)

pub named : (b : ℕ) → is_some (mode_named b) ≡ leb b single_instance
named zero = refl
named (suc zero) = refl
named (suc (suc zero)) = refl
named (suc (suc (suc zero))) = refl
named (suc (suc (suc (suc b)))) =
    rw (unnamed (suc (suc (suc (suc b)))) (omega arith), refuted (leb (suc (suc (suc (suc b)))) single_instance) (leb-decides _ _) (λ e. omega arith))

pub decoded : (b : ℕ) (r : Result Mode UnknownMode) → Decodes b r → result_ok r ≡ mode_named b
decoded b (Ok m) h = sym h
decoded b (Err e) h = sym (unnamed b h.1)

-- a test of a mode is one of its byte
pub top_named : (b : ℕ) → option_eq eq-value.it (mode_named b) (Some Mode.SingleTop) ≡ eqb b single_top
top_named zero = refl
top_named (suc zero) = refl
top_named (suc (suc zero)) = refl
top_named (suc (suc (suc zero))) = refl
top_named (suc (suc (suc (suc b)))) =
    rw (unnamed (suc (suc (suc (suc b)))) (omega arith), refuted (eqb (suc (suc (suc (suc b)))) single_top) (eqb-decides _ _) (λ e. omega arith))

pub task_named : (b : ℕ) → option_eq eq-value.it (mode_named b) (Some Mode.SingleTask) ≡ eqb b single_task
task_named zero = refl
task_named (suc zero) = refl
task_named (suc (suc zero)) = refl
task_named (suc (suc (suc zero))) = refl
task_named (suc (suc (suc (suc b)))) =
    rw (unnamed (suc (suc (suc (suc b)))) (omega arith), refuted (eqb (suc (suc (suc (suc b)))) single_task) (eqb-decides _ _) (λ e. omega arith))

pub instance_named : (b : ℕ) → option_eq eq-value.it (mode_named b) (Some Mode.SingleInstance) ≡ eqb b single_instance
instance_named zero = refl
instance_named (suc zero) = refl
instance_named (suc (suc zero)) = refl
instance_named (suc (suc (suc zero))) = refl
instance_named (suc (suc (suc (suc b)))) =
    rw (unnamed (suc (suc (suc (suc b)))) (omega arith), refuted (eqb (suc (suc (suc (suc b)))) single_instance) (eqb-decides _ _) (λ e. omega arith))
