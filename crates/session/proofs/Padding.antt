-- Lists filled up to a fixed length, as arrays hold them: what was filled up and the filling come back, and each change
-- of a list is a change of the array.
use Prim.Native.Nat.{ℕ, suc, ◌-◌, ◌≤◌, ◌<◌}
use mathlib.Core.Path.{◌≡◌, sym, ◌∙◌, ap}
use mathlib.Core.List.{List, [], ◌∷◌, ◌++◌, append_assoc}
use native.Mathlib.Omega.{arith}
use lib.ListN.{length, get_or, set, take, drop, replicate, get_or-append, length-append, length-set, length-replicate, length-drop, take-append-drop}
use lib.Seq.{take_at, drop_at, set_at, set-append_left, append_snoc, take-append-le, drop-append-le, length-take-le}
use Rattle.model.specs.Lists.{omit, to_front}
use Rattle.model.proofs.ListLaws.{omit-split, to_front-length, to_front-omit}
use Rattle.session.specs.Stored.{pad}

omit-append : {A : Type 0} (i : ℕ) (xs ys : List A) → i < length xs → omit i (xs ++ ys) ≡ omit i xs ++ ys
omit-append i xs ys h =
    rw (omit-split i (xs ++ ys), omit-split i xs, take-append-le i xs ys (omega arith), drop-append-le (suc i) xs ys h)
    (sym (append_assoc (take i xs) (drop (suc i) xs) ys))

module _ {A : Type 0} (n : ℕ) (z : A) where
  pub pad-length : (xs : List A) → length xs ≤ n → length (pad n z xs) ≡ n
  unfolding pad
  pad-length xs h = simp (length-append, length-replicate) (omega arith)

  -- a filling by its length
  same : {a b : ℕ} → a ≡ b → replicate a z ≡ replicate b z
  same e = ap (λ (m : ℕ). replicate m z) e

  -- what was filled up, and the filling
  pub take-pad : (k : ℕ) (xs : List A) → length xs ≡ k → take k (pad n z xs) ≡ xs
  unfolding pad
  take-pad k xs e = take_at xs (replicate (n - length xs) z) k e

  pub drop-pad : (k : ℕ) (xs : List A) → length xs ≡ k → drop k (pad n z xs) ≡ replicate (n - k) z
  unfolding pad
  drop-pad k xs e = drop_at xs (replicate (n - length xs) z) k e ∙ ap (λ (m : ℕ). replicate (n - m) z) e

  pub pad-take : (k : ℕ) (l : List A) → length l ≡ n → k ≤ n → drop k l ≡ replicate (length (drop k l)) z → pad n z (take k l) ≡ l
  unfolding pad
  pad-take k l e h r =
      let g : n - length (take k l) ≡ length (drop k l) = omega (arith, length-take-le k l (omega arith), length-drop k l) in
      ap (λ (t : List A). take k l ++ t) (same g ∙ sym r) ∙ take-append-drop k l

  -- one more at the end, and one less there
  pub pad-snoc : (k : ℕ) (x : A) (xs : List A) → length xs ≡ k → k < n → pad n z (xs ++ (x ∷ [])) ≡ xs ++ x ∷ replicate (n - suc k) z
  unfolding pad
  pad-snoc k x xs e h =
      let g : n - length (xs ++ (x ∷ [])) ≡ n - suc k = omega (arith, length-append xs (x ∷ [])) in
      ap (λ (l : List A). (xs ++ (x ∷ [])) ++ l) (same g) ∙ append_snoc xs x (replicate (n - suc k) z)

  pad-open : (k : ℕ) (xs : List A) → length xs ≡ k → k < n → pad n z xs ≡ xs ++ z ∷ replicate (n - suc k) z
  unfolding pad
  pad-open k xs e h = let g : n - length xs ≡ suc (n - suc k) = omega arith in ap (λ (l : List A). xs ++ l) (same g)

  pub pad-push : (k : ℕ) (x : A) (xs : List A) → length xs ≡ k → k < n → pad n z (xs ++ (x ∷ [])) ≡ set (pad n z xs) k x
  pad-push k x xs e h =
      pad-snoc k x xs e h
      ∙ sym (ap (λ (l : List A). set l k x) (pad-open k xs e h) ∙ set_at xs z (replicate (n - suc k) z) x k e)

  pub pad-pop : (k : ℕ) (x : A) (xs : List A) → length xs ≡ k → k < n → pad n z xs ≡ set (pad n z (xs ++ (x ∷ []))) k z
  pad-pop k x xs e h =
      pad-open k xs e h
      ∙ sym (ap (λ (l : List A). set l k z) (pad-snoc k x xs e h) ∙ set_at xs x (replicate (n - suc k) z) z k e)

  -- only the first k stay
  pub pad-keep : (k : ℕ) (xs : List A) → k ≤ length xs → pad n z (take k xs) ≡ take k (pad n z xs) ++ replicate (n - k) z
  unfolding pad
  pad-keep k xs h =
      let g : n - length (take k xs) ≡ n - k = omega (arith, length-take-le k xs h) in
      rw (take-append-le k xs (replicate (n - length xs) z) h) (ap (λ (l : List A). take k xs ++ l) (same g))

  -- one changed
  pub pad-set : (k : ℕ) (x : A) (xs : List A) → k < length xs → pad n z (set xs k x) ≡ set (pad n z xs) k x
  unfolding pad
  pad-set k x xs h = rw (length-set xs k x) (sym (set-append_left xs (replicate (n - length xs) z) k x h))

  -- one brought to the front
  pub pad-to_front : (k : ℕ) (xs : List A) → k < length xs → pad n z (to_front k xs) ≡ to_front k (pad n z xs)
  unfolding pad
  pad-to_front k xs h =
      let ys = replicate (n - length xs) z in
      let l : k < length (xs ++ ys) = omega (arith, length-append xs ys) in
      rw (to_front-length k xs, to_front-omit z k (xs ++ ys) l, to_front-omit z k xs h, omit-append k xs ys h, get_or-append xs ys z k h)

  -- of the first h, the one behind m others goes to their end
  pub pad-lift : (m h : ℕ) (ys : List A) → length ys ≡ h → m < h → h ≤ n
      → pad n z ((take m ys ++ drop (suc m) ys) ++ (get_or ys m z ∷ []))
      ≡ take m (pad n z ys) ++ take (h - suc m) (drop (suc m) (pad n z ys)) ++ get_or (pad n z ys) m z ∷ drop h (pad n z ys)
  unfolding pad
  pad-lift m h ys e l b =
      let zs = replicate (n - length ys) z in
      let c : length (take m ys ++ drop (suc m) ys) ≡ h - 1 =
      omega (arith, length-append (take m ys) (drop (suc m) ys), length-take-le m ys (omega arith), length-drop (suc m) ys) in
      let i : suc (h - 1) ≡ h = omega arith in
      let t : take (h - suc m) (drop (suc m) (ys ++ zs)) ≡ drop (suc m) ys =
      rw (drop-append-le (suc m) ys zs (omega arith)) (take_at (drop (suc m) ys) zs (h - suc m) (omega (arith, length-drop (suc m) ys))) in
      pad-snoc (h - 1) (get_or ys m z) (take m ys ++ drop (suc m) ys) c (omega arith)
      ∙ sym (rw (t, take-append-le m ys zs (omega arith), get_or-append ys zs z m (omega arith), drop-pad h ys e)
      (ap (λ (j : ℕ). take m ys ++ drop (suc m) ys ++ get_or ys m z ∷ replicate (n - j) z) (sym i)))
