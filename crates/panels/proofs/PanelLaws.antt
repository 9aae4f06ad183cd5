-- Panels that are stored: they come back, one more is pushed, and what stands is looked at one by one.
use Prim.Native.Nat.{ℕ, suc, ◌+◌, ◌≤◌, ◌<◌}
use mathlib.Core.Path.{◌≡◌, refl, sym, ap, ◌∙◌}
use mathlib.Core.Bool.{Bool, true, false}
use mathlib.Core.List.{List, [], ◌∷◌, ◌++◌, reverse, reverse-append, reverse-cons, reverse-reverse}
use native.Mathlib.Numerals.{add-one}
use native.Mathlib.Omega.{arith}
use lib.Dec.{eqb}
use lib.ListN.{length, get_or, take, length-append, length-reverse, length-take}
use lib.Seq.{take_all, take-suc, length-take-le}
use borrow.Author.Tests.{eq-eqb}
use Rattle.std.specs.Prelude.{if◌then◌else◌}
use Rattle.session.specs.Stored.{pad}
use Rattle.session.proofs.Padding.{take-pad, pad-push}
use Rattle.panels.specs.Operations.{most_panels, without, remove_topmost}
use Rattle.panels.specs.Stored.{no_panels, view_panels, hold_panels, pushed, IsClean}
use Rattle.panels.specs.declared.Panels.{Panels}

-- ---- what is stored comes back

pub view-held : (xs : List ℕ) → view_panels (hold_panels xs) ≡ xs
unfolding view_panels hold_panels
view-held xs = take-pad most_panels 0 (length xs) xs refl

pub none-held : no_panels ≡ hold_panels []
unfolding hold_panels pad
none-held = refl

pub view-low : (q : Panels) → q.count ≤ most_panels → length (view_panels q) ≤ most_panels
unfolding view_panels
view-low q h = omega (arith, length-take q.count q.panels)

-- the panels below n, where n is the count
pub until-low : (q : Panels) → q.count ≤ most_panels → {n : ℕ} → n ≡ q.count → length (take n q.panels) ≤ most_panels
until-low q h {n} e = omega (arith, length-take n q.panels)

pub all-viewed : (q : Panels) {n i : ℕ} → n ≡ q.count → length (take n q.panels) ≤ i → take i (take n q.panels) ≡ view_panels q
unfolding view_panels
all-viewed q {n} {i} e h = take_all i (take n q.panels) h ∙ ap (λ (m : ℕ). take m q.panels) e

pub held-count : (q : Panels) (ys : List ℕ) → q ≡ hold_panels ys → q.count ≡ length ys
unfolding hold_panels
held-count q ys e = ap (λ (t : Panels). t.count) e

pub held-clean : (q : Panels) (ys : List ℕ) → q ≡ hold_panels ys → length ys ≤ most_panels → IsClean q
held-clean q ys e l =
    let k = held-count q ys e in
    (omega arith, e ∙ ap hold_panels (sym (view-held ys) ∙ ap view_panels (sym e)))

pub clean-count : (q : Panels) → IsClean q → length (view_panels q) ≡ q.count
clean-count q h = sym (held-count q (view_panels q) h.1)

pub push-held : (q : Panels) (ys : List ℕ) (p : ℕ) → q ≡ hold_panels ys → length ys < most_panels → pushed q p ≡ hold_panels (ys ++ (p ∷ []))
unfolding hold_panels
push-held q ys p e l =
    let n : length ys + 1 ≡ length (ys ++ (p ∷ [])) = omega (arith, length-append ys (p ∷ [])) in
    ap (λ (t : Panels). pushed t p) e ∙ (λ i. record { count = n i; panels = sym (pad-push most_panels 0 (length ys) p ys refl l) i })

-- ---- the topmost

topmost-same : (p x : ℕ) (ys : List ℕ) → x ≡ p → remove_topmost p (ys ++ (x ∷ [])) ≡ ys
unfolding remove_topmost
topmost-same p x ys e = rw (reverse-append ys (x ∷ []), eq-eqb x p e) (reverse-reverse ys)

topmost-other : (p x : ℕ) (ys : List ℕ) → eqb x p ≡ false → remove_topmost p (ys ++ (x ∷ [])) ≡ remove_topmost p ys ++ (x ∷ [])
unfolding remove_topmost
topmost-other p x ys e = rw (reverse-append ys (x ∷ []), e) (reverse-cons x (without p (reverse ys)))

without-shorter : (p : ℕ) (xs : List ℕ) → length (without p xs) ≤ length xs
without-shorter p [] = omega arith
without-shorter p (x ∷ xs) = go (eqb x p) (without-shorter p xs)
  where
    go : (b : Bool) → length (without p xs) ≤ length xs → length (if b then xs else x ∷ without p xs) ≤ suc (length xs)
    go true h = omega arith
    go false h = omega arith

pub topmost-shorter : (p : ℕ) (xs : List ℕ) → length (remove_topmost p xs) ≤ length xs
unfolding remove_topmost
topmost-shorter p xs = omega (arith, length-reverse (without p (reverse xs)), length-reverse xs, without-shorter p (reverse xs))

pub none-removed : (p : ℕ) → no_panels ≡ hold_panels (remove_topmost p [])
unfolding remove_topmost
none-removed p = none-held

-- ---- one panel more is looked at

module _ (xs : List ℕ) (i : ℕ) (low : length xs ≤ most_panels) (l : i < length xs) where
  next : take (i + 1) xs ≡ take i xs ++ (get_or xs i 0 ∷ [])
  next = ap (λ (n : ℕ). take n xs) (add-one i) ∙ take-suc xs i 0 l

  few : length (take i xs) ≡ i
  few = length-take-le i xs (omega arith)

  -- it is pushed onto those before it
  pub push-room : (q : Panels) → q ≡ hold_panels (take i xs) → q.count < 8
  push-room q h = omega (arith, held-count q (take i xs) h, few)

  pub push-next : (q : Panels) → q ≡ hold_panels (take i xs) → pushed q (get_or xs i 0) ≡ hold_panels (take (i + 1) xs)
  push-next q h = push-held q (take i xs) (get_or xs i 0) h (omega (arith, few)) ∙ ap hold_panels (sym next)

  -- it is the topmost p so far, and goes, or it is pushed
  module _ (p : ℕ) (q : Panels) where
    pub push-same : q ≡ hold_panels (take i xs) → get_or xs i 0 ≡ p → q ≡ hold_panels (remove_topmost p (take (i + 1) xs))
    push-same h same = h ∙ ap hold_panels (sym (ap (remove_topmost p) next ∙ topmost-same p (get_or xs i 0) (take i xs) same))

    pub other-room : q ≡ hold_panels (remove_topmost p (take i xs)) → q.count < 8
    other-room h = omega (arith, held-count q (remove_topmost p (take i xs)) h, topmost-shorter p (take i xs), few)

    pub push-other : q ≡ hold_panels (remove_topmost p (take i xs)) → eqb (get_or xs i 0) p ≡ false
        → pushed q (get_or xs i 0) ≡ hold_panels (remove_topmost p (take (i + 1) xs))
    push-other h other =
        push-held q (remove_topmost p (take i xs)) (get_or xs i 0) h (omega (arith, topmost-shorter p (take i xs), few))
        ∙ ap hold_panels (sym (ap (remove_topmost p) next ∙ topmost-other p (get_or xs i 0) (take i xs) other))
