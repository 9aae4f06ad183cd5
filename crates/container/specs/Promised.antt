-- What is promised of every list of steps and Backs from an empty container; and of a recorded step and a Back.
use Rattle.std.specs.Prelude.{ℕ, ◌≤◌, ◌<◌, ◌≡◌, true, false, List, [], ◌∷◌, ◌++◌, eqb, length, get_or, take, if◌then◌else◌}
use Rattle.model.specs.Lists.{All}
use Rattle.model.specs.Histories.{after}
use Rattle.panels.specs.Operations.{most_panels}
use Rattle.container.specs.Calls.{most_steps, State, Step, Call, back, counted_in, run}
use Rattle.container.specs.Stored.{empty_container, view, hold, good_container, called, step_of, by_container}
use Rattle.container.specs.declared.Container.{Container}

-- the live steps after a list of calls on a container; a refused call changes nothing
abbrev pub live_from : Container → List Step → List Call → List Step
live_from c live [] = live
live_from c live (a ∷ calls) =
    live_from (called a c).container (if eqb (called a c).refusal 0 then counted_in a live else live) calls

-- "every list of steps and Backs from an empty container"
abbrev pub live_after : List Call → List Step
live_after calls = live_from empty_container [] calls

-- "the panels are those of the steps carried out and not undone": what a container tells of its live steps
pub record Tells (s : State) (live : List Step) : Type 0 where
  pub unrecorded : List Step
  pub recorded : List Step
  -- the recorded steps stand behind all unrecorded ones, so an accepted Back drops the last of them; they are "up to 8"
  pub parted : live ≡ unrecorded ++ recorded
  pub first : All (λ p. p.recorded ≡ false) unrecorded
  pub second : All (λ p. p.recorded ≡ true) recorded
  pub many : length s.kept ≡ length recorded
  pub few : length s.kept ≤ most_steps
  -- the panels now, and those that each recorded step found
  pub now : s.now ≡ run live
  pub kept : (i : ℕ) → i < length recorded → get_or s.kept i [] ≡ run (unrecorded ++ take i recorded)
  -- "up to 8 panels"
  pub low : length s.now ≤ most_panels
  pub kept_low : All (λ xs. length xs ≤ most_panels) s.kept

-- the container after a list of calls
pub record Promised (calls : List Call) (c : Container) : Type 0 where
  -- it is that of the calls one after the other, with 0 beyond its counts
  pub reached : c ≡ after by_container empty_container calls
  pub stored : c ≡ hold (view c)
  pub tells : Tells (view c) (live_after calls)
  -- 36 is not drawn for it
  pub good : good_container c ≡ true

abbrev pub KeepsPromise : Type 0
KeepsPromise = (calls : List Call) → Promised calls (after by_container empty_container calls)

-- an accepted recorded step and then a Back leave every container as it was, with 0 beyond its counts
abbrev pub BackRestores : Type 0
BackRestores =
    (r : ℕ) (l : List ℕ) (c : Container) → (r ≡ 0 → ⊥) → (called (step_of r l) c).refusal ≡ 0
    → called back (called (step_of r l) c).container ≡ record { container = hold (view c); refusal = 0 }
