-- Containers as they are stored: 8 kept panels, oldest first, 0 beyond. The checks and the calls on them.
use Rattle.std.specs.Prelude.{ℕ, ◌+◌, Bool, true, false, not, ◌&&◌, ◌||◌, List, [], ◌∷◌, map, eqb, leb, length, take, set, replicate, if◌then◌else◌, Result, Ok, Err}
use Rattle.model.specs.Lists.{all}
use Rattle.model.specs.declared.Refusal.{Refusal}
use Rattle.model.specs.Refusals.{Check, check, refusal, refusal_number}
use Rattle.model.specs.Histories.{Machine}
use Rattle.session.specs.Stored.{pad}
use Rattle.panels.specs.Operations.{most_panels, operations_in, makes_nine, good_operations}
use Rattle.panels.specs.Stored.{no_panels, view_panels, hold_panels}
use Rattle.panels.specs.declared.Panels.{Panels}
use Rattle.container.specs.Calls.{most_steps, State, state, Call, step, back, carried}
use Rattle.container.specs.declared.Container.{Container}

-- "an empty container"
abbrev pub empty_container : Container
empty_container = record { now = no_panels; steps = 0; kept = replicate most_steps no_panels }

-- the container that is stored
unfoldable pub view : Container → State
view c = state (view_panels c.now) (map view_panels (take c.steps c.kept))

-- storage for a container
unfoldable pub hold : State → Container
hold s = record { now = hold_panels s.now; steps = length s.kept; kept = pad most_steps no_panels (map hold_panels s.kept) }

-- one step more, which found these panels
abbrev pub with_kept : Container → Panels → Container
with_kept c q = record { now = c.now; steps = c.steps + 1; kept = set c.kept c.steps q }

-- ---- the checks

-- not "more than 8 panels"
abbrev pub fits : Panels → Bool
fits q = leb q.count most_panels

-- not "a container with more than 8 steps, or more than 8 panels now or kept": kept panels beyond the steps are not looked at
unfoldable pub good_container : Container → Bool
good_container c = leb c.steps most_steps && (fits c.now && all fits (take c.steps c.kept))

-- "a ninth recorded step, an unrecorded step over recorded ones": of a step that is recorded or not, over so many
abbrev pub has_no_place : Bool → ℕ → Bool
has_no_place true n = eqb n most_steps
has_no_place false n = not (eqb n 0)

-- "Checks, in this sequence"
unfoldable pub checks_of : Call → Container → List Check
checks_of (step p) c =
    check 36 (not (good_operations p.operations) || not (good_container c))
    ∷ check 37 (makes_nine (operations_in p.operations) (view_panels c.now))
    ∷ check 38 (has_no_place p.recorded c.steps)
    ∷ []
checks_of back c = check 36 (not (good_container c)) ∷ check 38 (eqb c.steps 0) ∷ []

abbrev pub refusal_at : Call → Container → ℕ
refusal_at a c = refusal (checks_of a c)

-- ---- the calls

-- the container after a call, and the refusal
pub record Reply : Type 0 where
  pub container : Container
  pub refusal : ℕ

-- the container after a call and 0, or the refusal, "the container kept"
unfoldable pub called : Call → Container → Reply
called a c =
    if eqb (refusal_at a c) 0 then record { container = hold (carried a (view c)); refusal = 0 }
    else record { container = c; refusal = refusal_at a c }

-- what a call makes of a container, or its refusal: then the container is as it was
abbrev pub called_as : Container → Result Container Refusal → Reply
called_as c (Ok next) = record { container = next; refusal = 0 }
called_as c (Err r) = record { container = c; refusal = refusal_number r }

-- recorded: 0 for no, any other byte for yes
abbrev pub step_of : ℕ → List ℕ → Call
step_of recorded operations = step (record { recorded = not (eqb recorded 0); operations = operations })

-- a container as what answers lists of calls, by refusals
abbrev pub by_container : Machine Container Call ℕ
by_container = record { next = λ c a. (called a c).container; answer = λ c a. (called a c).refusal }
