-- Reading a list of calls: a record at a time, by the bytes that stand at a place.
use Prim.Native.Nat.{ℕ, zero, suc, ◌+◌, ◌-◌, ◌≤◌, ◌<◌}
use mathlib.Core.Path.{◌≡◌, refl, sym, ◌∙◌, ap}
use mathlib.Core.List.{List, [], ◌++◌}
use native.Mathlib.Omega.{arith}
use lib.ListN.{length, take, drop, length-drop}
use lib.Seq.{drop-drop, take_all}
use borrow.Author.Tests.{le-leb, lt-leb}
use Rattle.std.specs.Prelude.{if◌then◌else◌}
use Rattle.std.specs.List.{IsSplitAt}
use Rattle.container.specs.Calls.{Call}
use Rattle.container_lists.specs.CallBytes.{first_bytes, first_call, first_whole, first_calls, calls_in}

pub cut-calls : (n : ℕ) (l : List ℕ) → length l < 2 + first_bytes l → first_calls n l ≡ []
unfolding first_calls
cut-calls zero l h = refl
cut-calls (suc n) l h = rw (lt-leb (2 + first_bytes l) (length l) h)

-- as many records as there are bytes are all
all-calls : (n m : ℕ) (l : List ℕ) → length l ≤ n → length l ≤ m → first_calls n l ≡ first_calls m l
unfolding first_calls
all-calls zero m l h k = cut-calls zero l (omega arith) ∙ sym (cut-calls m l (omega arith))
all-calls (suc n) zero l h k = cut-calls (suc n) l (omega arith)
all-calls (suc n) (suc m) l h k =
    let b = length-drop (2 + first_bytes l) l in
    ap (λ (cs : List Call). if first_whole l then first_call l ++ cs else [])
    (all-calls n m (drop (2 + first_bytes l) l) (omega arith) (omega arith))

pub calls-whole : (l : List ℕ) → 2 + first_bytes l ≤ length l → calls_in l ≡ first_call l ++ calls_in (drop (2 + first_bytes l) l)
unfolding first_calls
calls-whole l h =
    let rest = drop (2 + first_bytes l) l in
    all-calls (length l) (suc (length l)) l (omega arith) (omega arith)
    ∙ rw (le-leb (2 + first_bytes l) (length l) h)
    (ap (λ (cs : List Call). first_call l ++ cs)
    (all-calls (length l) (length rest) rest (omega (arith, length-drop (2 + first_bytes l) l)) (omega arith)))

-- ---- what stands behind the first two bytes

abbrev pub behind : List ℕ → List ℕ
behind l = take (length l - 2) (drop 2 l)

behind-all : (l : List ℕ) → behind l ≡ drop 2 l
behind-all l = take_all (length l - 2) (drop 2 l) (omega (arith, length-drop 2 l))

-- cut behind the operations of the first record
module _ (l : List ℕ) {operations others : List ℕ} {n : ℕ} (long : 2 ≤ length l) (e : n ≡ first_bytes l) (s : IsSplitAt (behind l) n operations others) where
  behind-length : length (behind l) ≡ length l - 2
  behind-length = rw (behind-all l) (length-drop 2 l)

  pub first-whole : 2 + first_bytes l ≤ length l
  first-whole = omega (arith, s.0, behind-length, e, long)

  pub others-shorter : length others < length l
  others-shorter = omega (arith, s.4, behind-length, long)

  pub first-operations : operations ≡ take (first_bytes l) (drop 2 l)
  first-operations = s.1 ∙ rw (e, behind-all l)

  pub others-left : others ≡ drop (2 + first_bytes l) l
  others-left = s.2 ∙ rw (e, behind-all l) (drop-drop (first_bytes l) 2 l)

pub first-cut : (l : List ℕ) {n : ℕ} → 2 ≤ length l → n ≡ first_bytes l → length (behind l) < n → length l < 2 + first_bytes l
first-cut l {n} long e h =
    let b : length (behind l) ≡ length l - 2 = rw (behind-all l) (length-drop 2 l) in
    omega (arith, b, e, h, long)
