-- One Back, on a sound session that is not empty: its answer is a look at what it leaves, a screen is gone, and with the
-- look before it the session is known again.
use Prim.Native.Nat.{ℕ, suc, ◌*◌, ◌≤◌}
use mathlib.Core.Path.{◌≡◌, refl, sym, ◌∙◌, ap, ap₂}
use mathlib.Core.List.{List, [], ◌∷◌, head-eq_of_cons-eq, tail-eq_of_cons-eq}
use native.Mathlib.Nat.{not-suc-le-zero}
use native.Mathlib.Omega.{arith}
use lib.ListN.{length}
use Rattle.model.specs.declared.Answer.{Answer}
use Rattle.model.specs.Lists.{All}
use Rattle.model.specs.Refusals.{refusal}
use Rattle.model.specs.Table.{table_refusal}
use Rattle.model.specs.Session.{Stack, State, stack, height, count, screens_in, fresh, most_tasks, most_height, edition_kept}
use Rattle.model.specs.Effects.{close}
use Rattle.model.specs.Answers.{outcome, settle, look_at, with_closed}
use Rattle.model.specs.Calls.{back, look, backed, own_checks, closed_of, done, call}
use Rattle.model.proofs.Logic.{All-map}
use Rattle.model.proofs.SumLaws.{sum-most}
use Rattle.model.proofs.Sessions.{with_tasks, same-fields}
use Rattle.model.proofs.Sound.{TaskSound, Sound}
use Rattle.model.proofs.Keeps.{settled}

-- ---- the front screen of a session that is not empty

record Fronted (s : State ℕ) : Type 0 where
  root : ℕ
  screen : ℕ
  below : List ℕ
  behind : List (Stack ℕ)
  is : s ≡ with_tasks s (stack root (screen ∷ below) ∷ behind)

fronted : (tb : List ℕ) (s : State ℕ) → Sound tb s → 1 ≤ count s → Fronted s
fronted tb s h some = of-tasks s.tasks h.each some
  where
    of-front : (r : ℕ) (xs : List ℕ) (ts : List (Stack ℕ)) → 1 ≤ length xs → Fronted (with_tasks s (stack r xs ∷ ts))
    of-front r [] ts l = absurd (not-suc-le-zero l)
    of-front r (x ∷ xs) ts l = record { root = r; screen = x; below = xs; behind = ts; is = refl }

    of-tasks : (ts : List (Stack ℕ)) → All (TaskSound tb) ts → 1 ≤ length ts → Fronted (with_tasks s ts)
    of-tasks [] h l = absurd (not-suc-le-zero l)
    of-tasks (t ∷ ts) h l = of-front t.root t.screens ts h.0.filled

-- ---- what a look and a Back give

module _ (tb : List ℕ) (ok : table_refusal tb ≡ 0) where
  pub look-gives : (s : State ℕ) → Sound tb s → call tb s look ≡ outcome s (look_at s)
  unfolding own_checks closed_of done refusal look_at
  look-gives s h = settled tb ok s h look

  pub back-gives : (s : State ℕ) → Sound tb s → 1 ≤ count s → call tb s back ≡ outcome (backed s) (with_closed 1 (look_at (backed s)))
  unfolding own_checks closed_of done refusal
  back-gives s h some =
      settled tb ok s h back
      ∙ ap (λ (u : State ℕ). settle outcome (refusal (own_checks tb u back)) s (backed s) (with_closed 1 (look_at (backed s)))) (fronted tb s h some).is

-- ---- screens

front-screens : (s : State ℕ) (r x : ℕ) (xs : List ℕ) (ts : List (Stack ℕ))
    → suc (screens_in (backed (with_tasks s (stack r (x ∷ xs) ∷ ts))).tasks) ≡ screens_in (stack r (x ∷ xs) ∷ ts)
unfolding backed close screens_in
front-screens s r x [] ts = omega arith
front-screens s r x (y ∷ ys) ts = omega arith

tasks-most : (tb : List ℕ) (ts : List (Stack ℕ)) → All (TaskSound tb) ts → screens_in ts ≤ length ts * most_height
unfolding screens_in
tasks-most tb ts h = sum-most height most_height ts (All-map (λ t k. k.low) ts h)

module _ (tb : List ℕ) (s : State ℕ) (h : Sound tb s) where
  pub back-screens : 1 ≤ count s → suc (screens_in (backed s).tasks) ≡ screens_in s.tasks
  back-screens some =
      let f = fronted tb s h some in
      rw f.is (front-screens s f.root f.screen f.below f.behind)

  -- 16 tasks of 32
  pub screens-most : screens_in s.tasks ≤ most_tasks * most_height
  screens-most = omega (arith, tasks-most tb s.tasks h.each, h.few)

-- ---- what a look and the session after a Back tell

empty : (tb : List ℕ) (s : State ℕ) → Sound tb s → count s ≡ 0 → s ≡ fresh
empty tb s h e =
    let z : s.main ≡ 0 = omega (arith, h.place.most) in
    same-fields (none s.tasks e) z (sym h.edition.kept ∙ ap (λ (n : ℕ). edition_kept n s.edition) e)
    (omega (arith, h.no_history.stands))
  where
    none : (ts : List (Stack ℕ)) → length ts ≡ 0 → ts ≡ []
    none [] e = refl
    none (t ∷ ts) e = absurd (omega arith)

cons-tasks : {r r' : ℕ} {xs xs' : List ℕ} {ts ts' : List (Stack ℕ)} → r ≡ r' → xs ≡ xs' → ts ≡ ts' → stack r xs ∷ ts ≡ stack r' xs' ∷ ts'
cons-tasks p q e = cc

module _ (s s' : State ℕ) (r r' x x' : ℕ) (ts ts' : List (Stack ℕ)) where
  -- the screens below the front ones are as many, as the heights say
  front-tells : (xs xs' : List ℕ)
      → look_at (with_tasks s (stack r (x ∷ xs) ∷ ts)) ≡ look_at (with_tasks s' (stack r' (x' ∷ xs') ∷ ts'))
      → backed (with_tasks s (stack r (x ∷ xs) ∷ ts)) ≡ backed (with_tasks s' (stack r' (x' ∷ xs') ∷ ts'))
      → with_tasks s (stack r (x ∷ xs) ∷ ts) ≡ with_tasks s' (stack r' (x' ∷ xs') ∷ ts')
  unfolding look_at backed close
  front-tells [] [] q e =
      same-fields
      (cons-tasks (ap (λ (a : Answer). a.root) q) (ap (λ (a : Answer). a.screen ∷ []) q) (ap (λ (s : State ℕ). s.tasks) e))
      (ap (λ (a : Answer). a.main) q) (ap (λ (a : Answer). a.edition) q) (ap (λ (a : Answer). a.no_history) q)
  front-tells [] (y' ∷ ys') q e = let h : 1 ≡ suc (suc (length ys')) = ap (λ (a : Answer). a.height) q in absurd (omega arith)
  front-tells (y ∷ ys) [] q e = let h : suc (suc (length ys)) ≡ 1 = ap (λ (a : Answer). a.height) q in absurd (omega arith)
  front-tells (y ∷ ys) (y' ∷ ys') q e =
      let us = ap (λ (s : State ℕ). s.tasks) e in
      same-fields
      (cons-tasks (ap (λ (a : Answer). a.root) q)
      (ap₂ ◌∷◌ (ap (λ (a : Answer). a.screen) q) (ap (λ (u : Stack ℕ). u.screens) (head-eq_of_cons-eq us)))
      (tail-eq_of_cons-eq us))
      (ap (λ (a : Answer). a.main) q) (ap (λ (a : Answer). a.edition) q) (ap (λ (a : Answer). a.no_history) q)

module _ (tb : List ℕ) (s t : State ℕ) (h : Sound tb s) (k : Sound tb t) (q : look_at s ≡ look_at t) where
  same_count : count s ≡ count t
  unfolding look_at
  same_count = ap (λ (a : Answer). a.tasks) q

  pub back-tells : 1 ≤ count s → backed s ≡ backed t → s ≡ t
  back-tells some e =
      let f = fronted tb s h some in
      let g = fronted tb t k (omega (arith, same_count)) in
      rw (f.is, g.is)
      (front-tells s t f.root g.root f.screen g.screen f.behind g.behind f.below g.below
      (rw (f.is, g.is) at q) (rw (f.is, g.is) at e))

  -- empty sessions look alike
  pub empty-both : count s ≡ 0 → (s ≡ fresh) × (t ≡ fresh)
  empty-both e = (empty tb s h e, empty tb t k (sym same_count ∙ e))
