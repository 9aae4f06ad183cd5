-- What an input begins with, by its N and its length; and what each answer says of the input.
use Prim.Native.Nat.{ℕ, ◌+◌, ◌*◌, ◌≤◌, ◌<◌}
use mathlib.Core.Path.{◌≡◌, refl, sym, ◌∙◌, subst}
use mathlib.Core.Bool.{Bool, true, false, ◌&&◌}
use mathlib.Core.List.{List}
use native.Mathlib.Omega.{arith}
use lib.Dec.{leb}
use lib.ListN.{length}
use Rattle.std.specs.Prelude.{Result, Ok, Err}
use borrow.Author.Tests.{leb-true, leb-false}
use Rattle.model.specs.Table.{size_of, most_screens}
use Rattle.model.specs.Player.{starts_with_table}
use Rattle.model.proofs.Logic.{Decides, and-decides, leb-decides, refuted, contradiction, if-elim}
use Rattle.table.specs.declared.NoTable.{NoTable}
use Rattle.table.specs.Beginnings.{beginning_of}

module _ (l : List ℕ) where
  abbrev long : ℕ
  long = 2 + 2 * size_of l

  pub record Good : Type 0 where
    pub some : 1 ≤ size_of l
    pub most : size_of l ≤ most_screens

  good-decides : Decides (leb 1 (size_of l) && leb (size_of l) most_screens) Good
  good-decides =
      let d = and-decides (leb-decides 1 (size_of l)) (leb-decides (size_of l) most_screens) in
      record { holds = λ h. let r = d.holds h in record { some = r.0; most = r.1 }; shows = λ g. d.shows (g.some, g.most) }

  pub starts-decides : Decides (starts_with_table l) (Good × (long ≤ length l))
  unfolding starts_with_table
  starts-decides = and-decides good-decides (leb-decides long (length l))

  -- ---- by N and the length

  pub begins-table : Good → long ≤ length l → beginning_of l ≡ Ok long
  unfolding beginning_of
  begins-table g fits = rw (starts-decides.shows (g, fits))

  pub begins-cut : Good → length l < long → beginning_of l ≡ Err (NoTable.Cut long)
  unfolding beginning_of
  begins-cut g short = rw (refuted (starts_with_table l) starts-decides (λ h. let k = h.1 in omega arith), good-decides.shows g)

  pub begins-bad : (Good → ⊥) → beginning_of l ≡ Err NoTable.Bad
  unfolding beginning_of
  begins-bad n = rw (refuted (starts_with_table l) starts-decides (λ h. n h.0), refuted (leb 1 (size_of l) && leb (size_of l) most_screens) good-decides n)

  -- ---- by the answer

  abbrev pub Said : Result ℕ NoTable → Type 0
  Said (Ok n) = (n ≡ long) × (Good × (long ≤ length l))
  Said (Err (NoTable.Cut n)) = (n ≡ long) × (Good × (length l < long))
  Said (Err NoTable.Bad) = Good → ⊥

  cut_short : Good → starts_with_table l ≡ false → length l < long
  cut_short g e = go (leb long (length l)) refl
    where
      go : (b : Bool) → leb long (length l) ≡ b → length l < long
      go true p = contradiction (starts-decides.shows (g, leb-true long (length l) p)) e
      go false p = leb-false long (length l) p

  said : Said (beginning_of l)
  unfolding beginning_of
  said =
      if-elim Said (starts_with_table l) _ _
      (λ e. (refl, starts-decides.holds e))
      (λ e. if-elim Said (leb 1 (size_of l) && leb (size_of l) most_screens) _ _
      (λ f. let g = good-decides.holds f in (refl, (g, cut_short g e)))
      (λ f g. contradiction (good-decides.shows g) f))

  -- ---- by what a caller is told

  pub told : {b : Result ℕ NoTable} (x : Result ℕ NoTable) → b ≡ beginning_of l → b ≡ x → Said x
  told x e f = subst Said (sym e ∙ f) said

  pub starts_with : {n : ℕ} {b : Result ℕ NoTable} → b ≡ beginning_of l → b ≡ Ok n → (starts_with_table l ≡ true) × (n ≡ long)
  starts_with {n} {b} e f = let k = told (Ok n) e f in (starts-decides.shows k.1, k.0)

  pub starts-otherwise : (b : Result ℕ NoTable) → b ≡ beginning_of l → ((n : ℕ) → b ≡ Ok n → ⊥) → starts_with_table l ≡ false
  starts-otherwise b e other = refuted (starts_with_table l) starts-decides (λ h. other long (e ∙ begins-table h.0 h.1))
