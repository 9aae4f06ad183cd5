-- Reading a list of calls: a record at a time, and what is behind it.
use Prim.Native.Nat.{ℕ, zero, suc, ◌+◌, ◌≤◌, ◌<◌}
use mathlib.Core.Path.{◌≡◌, refl, sym, ◌∙◌, ap}
use mathlib.Core.Bool.{true, false}
use mathlib.Core.List.{List, [], ◌++◌}
use native.Mathlib.Omega.{arith}
use lib.ListN.{length, take, drop, length-drop}
use borrow.Author.Tests.{le-leb, lt-leb, leb-true, leb-false}
use Rattle.std.specs.Prelude.{if◌then◌else◌}
use Rattle.std.proofs.lemmas.List.{get_or-take, drop-take}
use Rattle.model.specs.Calls.{Call}
use Rattle.recording.specs.CallBytes.{first_image, first_call, call_read, first_whole, first_calls, calls_in}

cut-calls : (n : ℕ) (l : List ℕ) → length l < 6 + first_image l → first_calls n l ≡ []
unfolding first_calls
cut-calls zero l h = refl
cut-calls (suc n) l h = rw (lt-leb (6 + first_image l) (length l) h)

-- as many records as there are bytes are all
all-calls : (n m : ℕ) (l : List ℕ) → length l ≤ n → length l ≤ m → first_calls n l ≡ first_calls m l
unfolding first_calls
all-calls zero m l h k = cut-calls zero l (omega arith) ∙ sym (cut-calls m l (omega arith))
all-calls (suc n) zero l h k = cut-calls (suc n) l (omega arith)
all-calls (suc n) (suc m) l h k =
    let b = length-drop (6 + first_image l) l in
    ap (λ (cs : List Call). if first_whole l then first_call l ++ cs else [])
    (all-calls n m (drop (6 + first_image l) l) (omega arith) (omega arith))

module _ (l : List ℕ) where
  pub calls-cut : first_whole l ≡ false → calls_in l ≡ []
  calls-cut e = cut-calls (length l) l (leb-false (6 + first_image l) (length l) e)

  pub calls-whole : 6 + first_image l ≤ length l → calls_in l ≡ first_call l ++ calls_in (drop (6 + first_image l) l)
  unfolding first_calls
  calls-whole h =
      all-calls (length l) (suc (length l)) l (omega arith) (omega arith)
      ∙ rw (le-leb (6 + first_image l) (length l) h)
      (ap (λ (cs : List Call). first_call l ++ cs)
      (all-calls (length l) (length (drop (6 + first_image l) l)) (drop (6 + first_image l) l) (omega (arith, length-drop (6 + first_image l) l)) (omega arith)))

  -- a whole record takes n bytes
  module _ (n : ℕ) (is : n ≡ 6 + first_image l) where
    pub calls-first : first_whole l ≡ true → calls_in l ≡ first_call l ++ calls_in (drop n l)
    calls-first e = rw is (calls-whole (leb-true (6 + first_image l) (length l) e))

    pub call-taken : call_read (take n l) ≡ first_call l
    call-taken =
        rw (
          is,
          get_or-take (6 + first_image l) l 0 0 (omega arith),
          get_or-take (6 + first_image l) l 1 0 (omega arith),
          get_or-take (6 + first_image l) l 2 0 (omega arith),
          get_or-take (6 + first_image l) l 3 0 (omega arith),
          get_or-take (6 + first_image l) l 4 0 (omega arith),
          get_or-take (6 + first_image l) l 5 0 (omega arith),
          drop-take 6 (first_image l) l,
        )
