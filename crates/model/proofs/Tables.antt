-- What each answer to the check of a table says of its bytes: refusals 1 and 2, and a good table.
use Prim.Native.Nat.{ℕ, ◌+◌, ◌*◌, ◌≤◌, ◌<◌}
use mathlib.Core.Path.{◌≡◌, refl}
use mathlib.Core.Bool.{Bool, true, false, ◌&&◌}
use mathlib.Core.List.{List}
use native.Mathlib.Omega.{arith}
use lib.Dec.{leb, ltb, eqb}
use lib.ListN.{length}
use Rattle.model.specs.Lists.{all_below}
use Rattle.model.specs.Refusals.{refusal}
use Rattle.model.specs.Table.{size_of, main_screen, mode_of, most_screens, single_instance, table_shaped, table_filled, table_refusal}
use Rattle.model.proofs.Logic.{Decides, and-decides, leb-decides, ltb-decides, eqb-decides, refuted, contradiction}
use Rattle.model.proofs.Walks.{below-decides}

module _ (tb : List ℕ) where
  pub record Shaped : Type 0 where
    pub long : length tb ≡ 2 + 2 * size_of tb
    pub some : 1 ≤ size_of tb
    pub most : size_of tb ≤ most_screens

  pub record Filled : Type 0 where
    pub main : main_screen tb < size_of tb
    pub modes : (x : ℕ) → x < size_of tb → mode_of tb x ≤ single_instance

  shaped-decides : Decides (table_shaped tb) Shaped
  unfolding table_shaped
  shaped-decides =
      record {
        holds = λ h. let r = d.holds h in record { long = r.0; some = r.1.0; most = r.1.1 };
        shows = λ k. d.shows (k.long, (k.some, k.most));
      }
    where
      d : Decides (eqb (length tb) (2 + 2 * size_of tb) && (leb 1 (size_of tb) && leb (size_of tb) most_screens))
          ((length tb ≡ 2 + 2 * size_of tb) × ((1 ≤ size_of tb) × (size_of tb ≤ most_screens)))
      d =
          and-decides (eqb-decides (length tb) (2 + 2 * size_of tb))
          (and-decides (leb-decides 1 (size_of tb)) (leb-decides (size_of tb) most_screens))

  pub modes-decides : (n : ℕ) → Decides (all_below n (λ x. leb (mode_of tb x) single_instance)) ((x : ℕ) → x < n → mode_of tb x ≤ single_instance)
  modes-decides n = below-decides (λ x. leb-decides (mode_of tb x) single_instance) n

  filled-decides : Decides (table_filled tb) Filled
  unfolding table_filled
  filled-decides =
      record {
        holds = λ h. let r = d.holds h in record { main = r.0; modes = r.1 };
        shows = λ k. d.shows (k.main, k.modes);
      }
    where
      d : Decides (ltb (main_screen tb) (size_of tb) && all_below (size_of tb) (λ x. leb (mode_of tb x) single_instance))
          ((main_screen tb < size_of tb) × ((x : ℕ) → x < size_of tb → mode_of tb x ≤ single_instance))
      d = and-decides (ltb-decides (main_screen tb) (size_of tb)) (modes-decides (size_of tb))

  pub refusal-1 : (Shaped → ⊥) → table_refusal tb ≡ 1
  unfolding table_refusal refusal
  refusal-1 n = rw (refuted (table_shaped tb) shaped-decides n)

  pub refusal-2 : Shaped → (Filled → ⊥) → table_refusal tb ≡ 2
  unfolding table_refusal refusal
  refusal-2 s n = rw (shaped-decides.shows s, refuted (table_filled tb) filled-decides n)

  pub refusal-0 : Shaped → Filled → table_refusal tb ≡ 0
  unfolding table_refusal refusal
  refusal-0 s f = rw (shaped-decides.shows s, filled-decides.shows f)

  pub good-shaped : table_refusal tb ≡ 0 → Shaped
  good-shaped e = go (table_shaped tb) refl
    where
      go : (b : Bool) → table_shaped tb ≡ b → Shaped
      go true p = shaped-decides.holds p
      go false p = let f = refusal-1 (λ s. contradiction (shaped-decides.shows s) p) in absurd (omega arith)
