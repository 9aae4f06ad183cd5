-- A list of steps and Backs as bytes: a kind (1 a step, 2 a recorded step, 3 Back), a count n, and then 2n bytes, which are the
-- operations of a step; Back passes over them. Every byte string reads as some list of calls.
use Rattle.std.specs.Prelude.{ℕ, zero, suc, ◌+◌, ◌*◌, ◌≡◌, Bool, true, false, List, [], ◌∷◌, ◌++◌, leb, eqb, length, get_or, take, drop, if◌then◌else◌}
use Rattle.model.specs.Lists.{All}
use Rattle.model.specs.Histories.{IsByte, after, answers}
use Rattle.container.specs.Calls.{Call, step, back}
use Rattle.container.specs.Stored.{empty_container, by_container}

-- the call of a record; an unknown kind is no call
unfoldable pub call_of : ℕ → List ℕ → List Call
call_of kind operations =
    if eqb kind 1 then step (record { recorded = false; operations = operations }) ∷ []
    else if eqb kind 2 then step (record { recorded = true; operations = operations }) ∷ []
    else if eqb kind 3 then back ∷ []
    else []

-- of the first record in the bytes: how many bytes of operations it has, its call, and whether it is whole
abbrev pub first_bytes : List ℕ → ℕ
first_bytes bytes = 2 * get_or bytes 1 0

abbrev pub first_call : List ℕ → List Call
first_call bytes = call_of (get_or bytes 0 0) (take (first_bytes bytes) (drop 2 bytes))

abbrev pub first_whole : List ℕ → Bool
first_whole bytes = leb (2 + first_bytes bytes) (length bytes)

-- the calls of the first n records. A cut record is no call and ends the list.
unfoldable pub first_calls : ℕ → List ℕ → List Call
first_calls zero bytes = []
first_calls (suc n) bytes =
    if first_whole bytes then first_call bytes ++ first_calls n (drop (2 + first_bytes bytes) bytes) else []

-- the calls of all records, which are not more than the bytes
abbrev pub calls_in : List ℕ → List Call
calls_in bytes = first_calls (length bytes) bytes

-- the calls that can be made
abbrev pub Passable : Call → Type 0
Passable (step p) = All IsByte p.operations
Passable back = Unit {0}

-- "every list of steps and Backs from an empty container": for each there are bytes that leave the same container, with the same
-- refusals along them
abbrev pub EveryList : Type 0
EveryList =
    (calls : List Call) → All Passable calls → (bytes : List ℕ) × All IsByte bytes
    × (after by_container empty_container (calls_in bytes) ≡ after by_container empty_container calls)
    × (answers by_container empty_container (calls_in bytes) ≡ answers by_container empty_container calls)
