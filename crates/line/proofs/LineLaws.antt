-- The text of a line, number by number: each is one to three digits and the byte behind it.
use Prim.Native.Nat.{ℕ, ◌*◌, ◌/◌, ◌%◌, ◌≤◌, ◌<◌}
use mathlib.Core.Path.{◌≡◌}
use mathlib.Core.List.{List, [], ◌∷◌, ◌++◌, append_assoc}
use native.Mathlib.Omega.{arith}
use lib.Dec.{ltb}
use lib.ListN.{length, length-append}
use lib.Seq.{append_snoc}
use borrow.Author.Tests.{lt-ltb, le-ltb}
use Rattle.model.specs.Player.{digit, space, newline, decimal, line_text}
use Rattle.model.proofs.Logic.{if-elim}
use Rattle.model.proofs.WrittenLaws.{Wrote, wrote-append}

-- ---- a number

module _ (n : ℕ) where
  pub decimal-one : n < 10 → decimal n ≡ digit n ∷ []
  unfolding decimal
  decimal-one h = rw (lt-ltb n 10 h)

  pub decimal-two : 10 ≤ n → n < 100 → decimal n ≡ digit (n / 10) ∷ digit (n % 10) ∷ []
  unfolding decimal
  decimal-two l h = rw (le-ltb n 10 l, lt-ltb n 100 h)

  pub decimal-three : 100 ≤ n → decimal n ≡ digit (n / 100) ∷ digit (n / 10 % 10) ∷ digit (n % 10) ∷ []
  unfolding decimal
  decimal-three l = rw (le-ltb n 10 (omega arith), le-ltb n 100 l)

abbrev Short : List ℕ → Type 0
Short l = length l ≤ 3

pub decimal-length : (n : ℕ) → length (decimal n) ≤ 3
unfolding decimal
decimal-length n =
    if-elim Short (ltb n 10) _ _ (λ e. omega arith)
    (λ e. if-elim Short (ltb n 100) _ _ (λ f. omega arith) (λ f. omega arith))

-- a number and one byte behind what was written before
pub number_behind : (n x : ℕ) {a d d' d'' : List ℕ} {at m r : ℕ}
    → Wrote d at a d' m → m ≤ length d → Wrote d' m (decimal n ++ x ∷ []) d'' r → Wrote d at (a ++ decimal n ++ x ∷ []) d'' r
number_behind n x {a} v fits w = rw (append_assoc a (decimal n) (x ∷ [])) (wrote-append v fits w)

-- ---- a line

-- each number has at most three digits and one byte behind it
pub text-length : (n : ℕ) (ns : List ℕ) → length (line_text (n ∷ ns)) ≤ 4 * length (n ∷ ns)
unfolding line_text
text-length n [] = let l = decimal-length n in omega (arith, length-append (decimal n) (newline ∷ []))
text-length n (k ∷ ns) =
    let l = decimal-length n in
    let ih = text-length k ns in
    omega (arith, length-append (decimal n) (space ∷ line_text (k ∷ ns)))

-- a number and the space behind it, then the rest of the line
pub line-next : (n k : ℕ) (ks : List ℕ) {d d' d'' : List ℕ} {at m r : ℕ}
    → Wrote d at (decimal n ++ space ∷ []) d' m → m ≤ length d → Wrote d' m (line_text (k ∷ ks)) d'' r
    → Wrote d at (line_text (n ∷ k ∷ ks)) d'' r
unfolding line_text
line-next n k ks v fits w = rw append_snoc at (wrote-append v fits w)

-- its last number and the newline
pub line-end : (n : ℕ) {d d' : List ℕ} {at r : ℕ}
    → Wrote d at (decimal n ++ newline ∷ []) d' r → Wrote d at (line_text (n ∷ [])) d' r
unfolding line_text
line-end n w = w
