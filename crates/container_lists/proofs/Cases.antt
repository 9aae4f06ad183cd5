-- Worked cases: lists of calls as bytes, the refusals along each, and the panels, now and kept, after it. All are proved by
-- computing: every definition is unfolded.
use Prim.Native.Nat.{ℕ}
use mathlib.Core.Path.{◌≡◌, refl}
use mathlib.Core.List.{List, [], ◌∷◌, ◌++◌, map}
use Rattle.model.specs.Refusals.{refusal}
use Rattle.model.specs.Histories.{after, answers}
use Rattle.session.specs.Stored.{pad}
use Rattle.panels.specs.Operations.{remove_topmost, operated, good_count, good_kind, good_operations}
use Rattle.panels.specs.Stored.{view_panels, hold_panels}
use Rattle.container.specs.Calls.{State, state, stepped, backed}
use Rattle.container.specs.Stored.{empty_container, view, hold, good_container, checks_of, called, by_container}
use Rattle.container_lists.specs.CallBytes.{call_of, first_calls, calls_in}

record Case : Type 0 where
  bytes : List ℕ
  refusals : List ℕ
  state : State

abbrev case : List ℕ → List ℕ → List ℕ → List (List ℕ) → Case
case bytes refusals now kept = record { bytes = bytes; refusals = refusals; state = state now kept }

abbrev computed : Case → Case
computed c =
    record {
      bytes = c.bytes;
      refusals = answers by_container empty_container (calls_in c.bytes);
      state = view (after by_container empty_container (calls_in c.bytes));
    }

-- eight panels, 1 to 8, by two unrecorded steps
abbrev eight : List ℕ
eight = 1 ∷ 4 ∷ 1 ∷ 1 ∷ 1 ∷ 2 ∷ 1 ∷ 3 ∷ 1 ∷ 4 ∷ 1 ∷ 4 ∷ 1 ∷ 5 ∷ 1 ∷ 6 ∷ 1 ∷ 7 ∷ 1 ∷ 8 ∷ []

abbrev cases : List Case
cases =
    -- the topmost copy of 3 goes, a panel that is not there is not missed, and replace removes all
    case (1 ∷ 4 ∷ 1 ∷ 3 ∷ 1 ∷ 1 ∷ 1 ∷ 3 ∷ 1 ∷ 2 ∷ 1 ∷ 2 ∷ 2 ∷ 3 ∷ 2 ∷ 9 ∷ []) (0 ∷ 0 ∷ []) (3 ∷ 1 ∷ 2 ∷ []) []
    ∷ case (1 ∷ 2 ∷ 1 ∷ 7 ∷ 1 ∷ 1 ∷ 1 ∷ 2 ∷ 3 ∷ 7 ∷ 1 ∷ 7 ∷ []) (0 ∷ 0 ∷ []) (7 ∷ 7 ∷ []) []
    -- at eight panels an add and then a remove is 37, a remove and then an add is not, and a replace is not
    ∷ case (eight ++ (1 ∷ 2 ∷ 1 ∷ 9 ∷ 2 ∷ 9 ∷ [])) (0 ∷ 0 ∷ 37 ∷ []) (1 ∷ 2 ∷ 3 ∷ 4 ∷ 5 ∷ 6 ∷ 7 ∷ 8 ∷ []) []
    ∷ case (eight ++ (1 ∷ 2 ∷ 2 ∷ 8 ∷ 1 ∷ 9 ∷ 1 ∷ 1 ∷ 3 ∷ 9 ∷ [])) (0 ∷ 0 ∷ 0 ∷ 0 ∷ []) (9 ∷ []) []
    -- a recorded step that changes nothing is recorded; over it 37 comes before 38
    ∷ case (eight ++ (2 ∷ 1 ∷ 2 ∷ 9 ∷ 1 ∷ 1 ∷ 1 ∷ 9 ∷ 1 ∷ 1 ∷ 2 ∷ 9 ∷ 3 ∷ 0 ∷ 3 ∷ 0 ∷ [])) (0 ∷ 0 ∷ 0 ∷ 37 ∷ 38 ∷ 0 ∷ 38 ∷ [])
    (1 ∷ 2 ∷ 3 ∷ 4 ∷ 5 ∷ 6 ∷ 7 ∷ 8 ∷ []) []
    -- no operation, five, kinds 0 and 4
    ∷ case (1 ∷ 0 ∷ 2 ∷ 5 ∷ 2 ∷ 1 ∷ 2 ∷ 1 ∷ 2 ∷ 1 ∷ 2 ∷ 1 ∷ 2 ∷ 1 ∷ 1 ∷ 1 ∷ 0 ∷ 1 ∷ 1 ∷ 1 ∷ 4 ∷ 1 ∷ []) (36 ∷ 36 ∷ 36 ∷ 36 ∷ []) [] []
    -- an unrecorded step, a recorded one, one more, Back over two bytes, an unknown kind, and a cut record
    ∷ case (1 ∷ 1 ∷ 1 ∷ 4 ∷ 2 ∷ 2 ∷ 1 ∷ 5 ∷ 1 ∷ 4 ∷ 2 ∷ 1 ∷ 2 ∷ 4 ∷ 3 ∷ 1 ∷ 1 ∷ 1 ∷ 9 ∷ 0 ∷ 2 ∷ 1 ∷ 1 ∷ []) (0 ∷ 0 ∷ 0 ∷ 0 ∷ [])
    (4 ∷ 5 ∷ 4 ∷ []) ((4 ∷ []) ∷ [])
    ∷ []

as_said : map computed cases ≡ cases
unfolding refusal after answers pad remove_topmost operated good_count good_kind good_operations view_panels hold_panels stepped backed view hold good_container checks_of called call_of first_calls
as_said = refl
