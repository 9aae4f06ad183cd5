-- Four blank places at once: the tests of four tasks, taken column by column.
use Prim.Native.Nat.{ℕ, ◌+◌, ◌≤◌, ◌<◌}
use mathlib.Core.Path.{◌≡◌, refl, sym, ◌∙◌, ap}
use mathlib.Core.Bool.{Bool, true, ◌&&◌, and-true}
use mathlib.Core.List.{[], ◌∷◌}
use native.Mathlib.Omega.{arith}
use lib.Dec.{eqb}
use lib.ListN.{length, get_or, drop}
use borrow.Author.Tests.{eq-eqb, eqb-true}
use Rattle.model.specs.Lists.{all}
use Rattle.model.proofs.Logic.{Decides, and-decides, self-decides, same_test, eqb-decides}
use Rattle.model.proofs.Walks.{all-step, all_end}
use Rattle.session.specs.declared.Task.{Task}
use Rattle.session.specs.Stored.{is_blank}

-- 0 on either side
zero-either : (x : ℕ) → eqb 0 x ≡ eqb x 0
zero-either x = same_test (record { holds = λ h. sym (eqb-true 0 x h); shows = λ e. eq-eqb 0 x (sym e) }) (eqb-decides x 0)

-- what is left of a task's screens from i on is 0
abbrev rest : ℕ → Task → Bool
rest i t = all (eqb 0) (drop i t.screens)

abbrev pub rests : ℕ → Task → Task → Task → Task → Bool
rests i a b c d = rest i a && (rest i b && (rest i c && rest i d))

abbrev at_zero : ℕ → Task → Bool
at_zero i t = eqb (get_or t.screens i 0) 0

-- ---- tests in another order

abbrev s : (b : Bool) → Decides b (b ≡ true)
s b = self-decides b

-- roots and heights first, then the screens
gather : (ra ha sa rb hb sb rc hc sc rd hd sd : Bool)
    → ((ra && (ha && sa)) && ((rb && (hb && sb)) && ((rc && (hc && sc)) && ((rd && (hd && sd)) && true))))
    ≡ ((((((((ra && ha) && rb) && hb) && rc) && hc) && rd) && hd) && (sa && (sb && (sc && sd))))
gather ra ha sa rb hb sb rc hc sc rd hd sd =
    let columns =
    and-decides
    (and-decides (and-decides (and-decides (and-decides (and-decides (and-decides (and-decides (s ra) (s ha)) (s rb)) (s hb)) (s rc)) (s hc)) (s rd)) (s hd))
    (and-decides (s sa) (and-decides (s sb) (and-decides (s sc) (s sd)))) in
    same_test
    (and-decides (and-decides (s ra) (and-decides (s ha) (s sa)))
    (and-decides (and-decides (s rb) (and-decides (s hb) (s sb)))
    (and-decides (and-decides (s rc) (and-decides (s hc) (s sc)))
    (and-decides (and-decides (s rd) (and-decides (s hd) (s sd))) (s true)))))
    (record {
      holds = λ e.
          let k = columns.holds e in
          let h = k.0 in
          let t = k.1 in (
            (h.0.0.0.0.0.0.0, (h.0.0.0.0.0.0.1, t.0)),
            (
              (h.0.0.0.0.0.1, (h.0.0.0.0.1, t.1.0)),
              ((h.0.0.0.1, (h.0.0.1, t.1.1.0)), ((h.0.1, (h.1, t.1.1.1)), refl)),
            ),
          );
      shows = λ k.
          columns.shows (
            (((((((k.0.0, k.0.1.0), k.1.0.0), k.1.0.1.0), k.1.1.0.0), k.1.1.0.1.0), k.1.1.1.0.0), k.1.1.1.0.1.0),
            (k.0.1.1, (k.1.0.1.1, (k.1.1.0.1.1, k.1.1.1.0.1.1))),
          );
    })

-- the first of each row, then what is left of the rows
column : (z xa ra xb rb xc rc xd rd : Bool)
    → (z && ((xa && ra) && ((xb && rb) && ((xc && rc) && (xd && rd))))) ≡ (((((z && xa) && xb) && xc) && xd) && (ra && (rb && (rc && rd))))
column z xa ra xb rb xc rc xd rd =
    let firsts =
    and-decides (and-decides (and-decides (and-decides (and-decides (s z) (s xa)) (s xb)) (s xc)) (s xd))
    (and-decides (s ra) (and-decides (s rb) (and-decides (s rc) (s rd)))) in
    same_test
    (and-decides (s z)
    (and-decides (and-decides (s xa) (s ra))
    (and-decides (and-decides (s xb) (s rb)) (and-decides (and-decides (s xc) (s rc)) (and-decides (s xd) (s rd))))))
    (record {
      holds = λ e.
          let k = firsts.holds e in
          let h = k.0 in
          let t = k.1 in
          (h.0.0.0.0, ((h.0.0.0.1, t.0), ((h.0.0.1, t.1.0), ((h.0.1, t.1.1.0), (h.1, t.1.1.1)))));
      shows = λ k.
          firsts.shows (
            ((((k.0, k.1.0.0), k.1.1.0.0), k.1.1.1.0.0), k.1.1.1.1.0),
            (k.1.0.1, (k.1.1.0.1, (k.1.1.1.0.1, k.1.1.1.1.1))),
          );
    })

-- ---- the loop over the columns

rest-step : (t : Task) (i : ℕ) → i < length t.screens → rest i t ≡ (at_zero i t && rest (i + 1) t)
rest-step t i h = all-step (eqb 0) t.screens i 0 h ∙ ap (λ (z : Bool). z && rest (i + 1) t) (zero-either (get_or t.screens i 0))

module _ (a b c d : Task) where
  abbrev heads : Bool
  heads =
      ((((((eqb a.root 0 && eqb a.height 0) && eqb b.root 0) && eqb b.height 0) && eqb c.root 0) && eqb c.height 0)
      && eqb d.root 0) && eqb d.height 0

  pub fours-begin : all is_blank (a ∷ b ∷ c ∷ d ∷ []) ≡ (heads && rests 0 a b c d)
  unfolding is_blank
  fours-begin =
      gather (eqb a.root 0) (eqb a.height 0) (rest 0 a) (eqb b.root 0) (eqb b.height 0) (rest 0 b)
      (eqb c.root 0) (eqb c.height 0) (rest 0 c) (eqb d.root 0) (eqb d.height 0) (rest 0 d)

  module _ (i : ℕ) (la : length a.screens ≡ 32) (lb : length b.screens ≡ 32) (lc : length c.screens ≡ 32) (ld : length d.screens ≡ 32) where
    pub fours-step : i < 32 → (z : Bool)
        → (z && rests i a b c d) ≡ (((((z && at_zero i a) && at_zero i b) && at_zero i c) && at_zero i d) && rests (i + 1) a b c d)
    fours-step h z =
        rw (rest-step a i (omega arith), rest-step b i (omega arith), rest-step c i (omega arith), rest-step d i (omega arith))
        (column z _ _ _ _ _ _ _ _)

    pub fours-end : 32 ≤ i → (z : Bool) → (z && rests i a b c d) ≡ z
    fours-end h z =
        rw (
          all_end (eqb 0) a.screens i (omega arith),
          all_end (eqb 0) b.screens i (omega arith),
          all_end (eqb 0) c.screens i (omega arith),
          all_end (eqb 0) d.screens i (omega arith),
        )
        (and-true z)
