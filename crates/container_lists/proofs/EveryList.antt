-- For every list of calls there are bytes that leave the same container, with the same refusals along them. A step with a bad
-- count is refused as one without operations is, and is written so.
use Prim.Native.Nat.{ℕ, ◌*◌, ◌/◌, ◌≤◌}
use mathlib.Core.Path.{◌≡◌, refl, sym, ◌∙◌, ap}
use mathlib.Core.Bool.{Bool, true, false, ◌||◌}
use mathlib.Core.List.{List, [], ◌∷◌, ◌++◌, map}
use native.Mathlib.Omega.{arith}
use lib.Dec.{eqb}
use lib.ListN.{length, length-append}
use lib.Seq.{take_at, drop_at, drop-drop}
use borrow.Author.Tests.{eqb-true}
use Rattle.std.specs.Prelude.{if◌then◌else◌}
use Rattle.model.specs.Lists.{All}
use Rattle.model.specs.Refusals.{refusal}
use Rattle.model.specs.Histories.{IsByte}
use Rattle.model.proofs.Logic.{if-elim, All-map}
use Rattle.model.proofs.ListLaws.{All-append, All-to-map}
use Rattle.model.proofs.MachineLaws.{run-each}
use Rattle.panels.specs.Operations.{good_count, good_operations}
use Rattle.container.specs.Calls.{Step, Call, step, back}
use Rattle.container.specs.Stored.{Reply, empty_container, checks_of, called, by_container}
use Rattle.container.specs.declared.Container.{Container}
use Rattle.container.proofs.CallLaws.{refused}
use Rattle.container_lists.specs.CallBytes.{call_of, first_calls, calls_in, Passable, EveryList}
use Rattle.container_lists.proofs.Reading.{calls-whole}

-- ---- steps with a bad count

abbrev counted : List ℕ → List ℕ
counted l = if good_count (length l) then l else []

abbrev short : Call → Call
short (step p) = step (record { recorded = p.recorded; operations = counted p.operations })
short back = back

bad-refused : (p : Step) (c : Container) → good_count (length p.operations) ≡ false → called (step p) c ≡ record { container = c; refusal = 36 }
unfolding refusal checks_of good_operations
bad-refused p c e = sym (refused (step p) c 35 (rw e))

short-alike : (a : Call) (c : Container) → called (short a) c ≡ called a c
unfolding good_count
short-alike (step p) c =
    if-elim (λ l. called (step (record { recorded = p.recorded; operations = l })) c ≡ called (step p) c)
    (good_count (length p.operations)) p.operations [] (λ e. refl)
    (λ e. bad-refused (record { recorded = p.recorded; operations = [] }) c refl ∙ sym (bad-refused p c e))
short-alike back c = refl

-- ---- lists as bytes

abbrev kind_of : Bool → ℕ
kind_of recorded = if recorded then 2 else 1

abbrev bytes_of : Call → List ℕ
bytes_of (step p) = kind_of p.recorded ∷ length p.operations / 2 ∷ p.operations
bytes_of back = 3 ∷ 0 ∷ []

abbrev written_as : List Call → List ℕ
written_as [] = []
written_as (a ∷ calls) = bytes_of a ++ written_as calls

-- the operations have a count, and it is a byte
abbrev Counts : List ℕ → Type 0
Counts l = (length l ≡ 2 * (length l / 2)) × (length l ≤ 8)

abbrev Writable : Call → Type 0
Writable (step p) = Counts p.operations × All IsByte p.operations
Writable back = Unit {0}

good-counts : (n : ℕ) → good_count n ≡ true → (n ≡ 2 * (n / 2)) × (n ≤ 8)
unfolding good_count
good-counts n e = go (eqb n 2) (eqb n 4) (eqb n 6) refl refl refl e
  where
    even : (k : ℕ) → n ≡ 2 * k → k ≤ 4 → (n ≡ 2 * (n / 2)) × (n ≤ 8)
    even k f l = (omega arith, omega arith)

    go : (a b c : Bool) → eqb n 2 ≡ a → eqb n 4 ≡ b → eqb n 6 ≡ c → (a || (b || (c || eqb n 8))) ≡ true → (n ≡ 2 * (n / 2)) × (n ≤ 8)
    go true b c f g h t = even 1 (eqb-true n 2 f) (omega arith)
    go false true c f g h t = even 2 (eqb-true n 4 g) (omega arith)
    go false false true f g h t = even 3 (eqb-true n 6 h) (omega arith)
    go false false false f g h t = even 4 (eqb-true n 8 t) (omega arith)

short-writable : (a : Call) → Passable a → Writable (short a)
short-writable (step p) h =
    if-elim (λ l. Counts l × All IsByte l) (good_count (length p.operations)) p.operations []
    (λ e. (good-counts (length p.operations) e, h)) (λ e. ((omega arith, omega arith), tt))
short-writable back h = tt

-- a record in front of others
record-back : (k n : ℕ) (l rest : List ℕ) → length l ≡ 2 * n → calls_in (k ∷ n ∷ (l ++ rest)) ≡ call_of k l ++ calls_in rest
record-back k n l rest e =
    calls-whole (k ∷ n ∷ (l ++ rest)) (omega (arith, e, length-append l rest))
    ∙ rw (take_at l rest (2 * n) e, ← drop-drop (2 * n) 2 (k ∷ n ∷ (l ++ rest)), drop_at l rest (2 * n) e)

step-read : (recorded : Bool) (l : List ℕ) → call_of (kind_of recorded) l ≡ step (record { recorded = recorded; operations = l }) ∷ []
unfolding call_of
step-read true l = refl
step-read false l = refl

read_back : (calls : List Call) → All Writable calls → calls_in (written_as calls) ≡ calls
unfolding call_of first_calls
read_back [] h = refl
read_back (step p ∷ calls) h =
    record-back (kind_of p.recorded) (length p.operations / 2) p.operations (written_as calls) h.0.0.0
    ∙ ap (λ (l : List Call). l ++ calls_in (written_as calls)) (step-read p.recorded p.operations)
    ∙ ap (λ (l : List Call). step p ∷ l) (read_back calls h.1)
read_back (back ∷ calls) h = record-back 3 0 [] (written_as calls) refl ∙ ap (λ (l : List Call). back ∷ l) (read_back calls h.1)

kind-byte : (b : Bool) → IsByte (kind_of b)
kind-byte true = omega arith
kind-byte false = omega arith

written-bytes : (calls : List Call) → All Writable calls → All IsByte (written_as calls)
written-bytes [] h = tt
written-bytes (step p ∷ calls) h =
    let low = h.0.0.1 in
    (kind-byte p.recorded, (omega arith, All-append IsByte p.operations (written_as calls) h.0.1 (written-bytes calls h.1)))
written-bytes (back ∷ calls) h = (omega arith, (omega arith, written-bytes calls h.1))

pub every : EveryList
every calls h =
    let w = All-to-map short Writable calls (All-map short-writable calls h) in
    let r = run-each by_container by_container (λ c d. c ≡ d) Passable short
    (λ c d e a _. ap (λ (x : Container). (called a x).container) e ∙ ap (λ (x : Reply). x.container) (sym (short-alike a d)))
    (λ c d e a _. ap (λ (x : Reply). x.refusal) (short-alike a d) ∙ ap (λ (x : Container). (called a x).refusal) (sym e))
    empty_container empty_container refl calls h in
    (written_as (map short calls), written-bytes (map short calls) w, rw (read_back (map short calls) w) (sym r.0), rw (read_back (map short calls) w) r.1)
