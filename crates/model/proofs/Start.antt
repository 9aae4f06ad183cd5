-- The first rule that fits is ready to be carried out; so a start keeps a session sound.
use Prim.Native.Nat.{ℕ, zero, suc, ◌≤◌, ◌<◌, zero-le, suc-le-suc, pred}
use mathlib.Core.Path.{◌≡◌, refl, sym, ◌∙◌, ap}
use mathlib.Core.Bool.{Bool, true, false, not, ◌&&◌, ◌||◌, false≢true}
use mathlib.Core.List.{List}
use lib.Dec.{eqb, ltb}
use lib.ListN.{get_or}
use borrow.Author.Tests.{eqb-true, eqb-false, not-false, ltb-true}
use Rattle.model.specs.declared.Change.{Change}
use Rattle.model.specs.declared.Flags.{Flags}
use Rattle.model.specs.declared.By.{By}
use Rattle.model.specs.declared.Found.{Found}
use Rattle.model.specs.declared.Group.{Group}
use Rattle.model.specs.declared.Rule.{Rule}
use Rattle.model.specs.declared.Choice.{Choice}
use Rattle.std.specs.Prelude.{if◌then◌else◌, Option, None, Some}
use Rattle.model.specs.Lists.{is_empty, is_place, find, first}
use Rattle.model.specs.Refusals.{refusal}
use Rattle.model.specs.Table.{size_of, affinity_of, is_single_task, is_single_instance, roots_once}
use Rattle.model.specs.Session.{Stack, State, no_stack, task_at, front, front_screen, count, most_tasks}
use Rattle.model.specs.Flags.{flags_of, has_other_bit}
use Rattle.model.specs.Search.{place_of, is_found, is_found_by_root, has_root, has_affinity, seek_root, seek_affinity, seeks_by_root, seek, holds}
use Rattle.model.specs.Rules.{rules_of, is_apart, group_of, sought_by, task_found, fits, choose_in, choose}
use Rattle.model.specs.Effects.{effect_of, reordered, carry_out}
use Rattle.model.specs.Calls.{chosen, effect_in, start_checks, makes_task, overfills}
use Rattle.model.proofs.Logic.{All-map, All-of, All-at, if-elim, first-elim, never, contradiction, and_left, and_right, and-false-right, or-false-right, or-true-left}
use Rattle.model.proofs.ListLaws.{found_at, found_none, find_none, is_empty-length}
use Rattle.model.proofs.RefusalLaws.{refusal-skip}
use Rattle.model.proofs.SearchLaws.{found-cases, affinity-decides}
use Rattle.model.proofs.Sound.{TaskSound, Sound, Plain}
use Rattle.model.proofs.Effects.{IsPlaceIn, Takes, Suits, RootFree, Ready, carry-sound}

-- the rule chosen, carried out
abbrev pub started_by : Choice → ℕ → State ℕ → State ℕ
started_by c b s = carry_out (eqb b) b b (effect_in s c) (place_of c.found) s

-- ---- what a search tells

module _ (tb : List ℕ) (s : State ℕ) (b : ℕ) where
  abbrev pub SoughtBy : By → ℕ → Type 0
  SoughtBy By.Root p = IsPlaceIn s p × ((task_at s.tasks p).root ≡ b)
  SoughtBy By.Affinity p = IsPlaceIn s p × Plain tb (task_at s.tasks p).root

  abbrev pub Sought : Option Found → Type 0
  Sought None = RootFree tb b s.tasks
  Sought (Some f) = SoughtBy f.by f.place

  -- the place of a task that was found
  found-place : (q : Stack ℕ → Bool) → is_place (find q s.tasks) ≡ true → IsPlaceIn s (find q s.tasks)
  found-place q e = at (find q s.tasks) e (found_at q no_stack s.tasks e).inside
    where
      at : (p : ℕ) → is_place p ≡ true → pred p < count s → IsPlaceIn s p
      at zero e l = absurd (false≢true e)
      at (suc k) e l = (suc-le-suc zero-le, l)

  pub seek_root-sought : Sought (seek_root b s.tasks)
  unfolding seek_root has_root
  seek_root-sought =
      if-elim Sought (is_place (find (has_root b) s.tasks)) _ None
      (λ e. (found-place (has_root b) e, eqb-true _ b (found_at (has_root b) no_stack s.tasks e).fits))
      (λ e. All-map (λ t f q r. eqb-false t.root b f (sym r)) s.tasks (found_none (has_root b) no_stack s.tasks e))

  seek_affinity-sought : (find (has_affinity tb b) s.tasks ≡ 0 → RootFree tb b s.tasks) → Sought (seek_affinity tb b s.tasks)
  unfolding seek_affinity
  seek_affinity-sought h =
      if-elim Sought (is_place (find (has_affinity tb b) s.tasks)) _ None
      (λ e. (found-place (has_affinity tb b) e, ((affinity-decides tb b _).holds (found_at (has_affinity tb b) no_stack s.tasks e).fits).0.0))
      (λ e. h (no_place (find (has_affinity tb b) s.tasks) e))
    where
      no_place : (p : ℕ) → is_place p ≡ false → p ≡ 0
      no_place zero e = refl
      no_place (suc k) e = never e

  -- nothing found: a new task of b clashes with none
  nowhere-free : (t : Option Found) → is_found t ≡ false → Sought t → RootFree tb b s.tasks
  nowhere-free None e h = h
  nowhere-free (Some f) e h = never e

  -- where none is sought by root: a task whose root is the single-task screen b has b's affinity, and would be found by that
  affinity-free : Plain tb b → seeks_by_root tb s.edition b ≡ false → find (has_affinity tb b) s.tasks ≡ 0 → RootFree tb b s.tasks
  unfolding roots_once seeks_by_root
  affinity-free plain e z =
      All-map (λ t f q r. contradiction ((affinity-decides tb b t).shows ((ap (is_single_instance tb) (sym r) ∙ plain, ap (affinity_of tb) (sym r)), kin q)) f)
      s.tasks (find_none (has_affinity tb b) no_stack s.tasks z)
    where
      single : (is_single_task tb b || is_single_instance tb b) ≡ true → is_single_task tb b ≡ true
      single q = or-true-left (is_single_task tb b) _ plain q

      kin : (is_single_task tb b || is_single_instance tb b) ≡ true → affinity_of tb b ≡ 0 → ⊥
      kin q y = eqb-false (affinity_of tb b) 0 (and-false-right (is_single_task tb b) _ (single q) (or-false-right (is_single_instance tb b || not (eqb s.edition 6)) _ e)) y

  pub seek-sought : Plain tb b → Sought (seek tb s.edition b s.tasks)
  unfolding seek
  seek-sought plain = go (seeks_by_root tb s.edition b) refl
    where
      go : (x : Bool) → seeks_by_root tb s.edition b ≡ x
          → Sought (if x && is_found (seek_root b s.tasks) then seek_root b s.tasks else seek_affinity tb b s.tasks)
      go true e =
          if-elim Sought (is_found (seek_root b s.tasks)) _ _ (λ f. seek_root-sought)
          (λ f. seek_affinity-sought (λ _. nowhere-free (seek_root b s.tasks) f seek_root-sought))
      go false e = seek_affinity-sought (affinity-free plain e)

  found_inside : (t : Option Found) → is_found t ≡ true → Sought t → IsPlaceIn s (place_of t)
  found_inside =
      found-cases (λ t. is_found t ≡ true → Sought t → IsPlaceIn s (place_of t)) (λ e h. absurd (false≢true e)) (λ p e h. h.0) (λ p e h. h.0)

  -- a screen that is neither single-task nor single-instance may be the root of many tasks
  standard-free : roots_once tb b ≡ false → RootFree tb b s.tasks
  standard-free f = All-of (λ t q r. contradiction q f) s.tasks

-- ---- the rule that is chosen

module _ (tb : List ℕ) (s : State ℕ) (b : ℕ) where
  -- the rule can be carried out, where t was found
  abbrev pub RuleReady : Option Found → Rule → Type 0
  RuleReady t r = Ready tb b s (effect_of s.edition s.main r) (place_of t)

  abbrev pub ChoiceReady : Choice → Type 0
  ChoiceReady c = RuleReady c.found c.rule

module _ (tb : List ℕ) (s : State ℕ) (b : ℕ) (f : Flags) where
  abbrev FirstReady : Group → Option Found → Type 0
  FirstReady g t = RuleReady tb s b t (first Rule.R18 (fits tb s b f t) (rules_of g))

  instance-ready : (t : Option Found) → Sought tb s b t → FirstReady Group.Instance t
  unfolding fits rules_of effect_of
  instance-ready t h =
      first-elim (RuleReady tb s b t) Rule.R18 (fits tb s b f t) (rules_of Group.Instance)
      (λ x. (found_inside tb s b t x h, tt), λ x. (λ _. nowhere-free tb s b t x h, never))

  module _ (plain : Plain tb b) where
    found-takes : (t : Option Found) → is_found t ≡ true → Sought tb s b t → Takes tb b (task_found tb s b f t)
    found-takes =
        found-cases (λ t. is_found t ≡ true → Sought tb s b t → Takes tb b (task_found tb s b f t)) (λ e h. absurd (false≢true e))
        (λ p e h. record { plain_root = rw h.1 plain; plain_screen = plain }) (λ p e h. record { plain_root = h.1; plain_screen = plain })

    module _ (t : Option Found) (h : Sought tb s b t) where
      -- the task found takes b; and holds it
      takes : is_found t ≡ true → IsPlaceIn s (place_of t) × Takes tb b (task_found tb s b f t)
      takes e = (found_inside tb s b t e h, found-takes t e h)

      takes-held : is_found t ≡ true → holds b (task_found tb s b f t).screens ≡ true
          → IsPlaceIn s (place_of t) × (Takes tb b (task_found tb s b f t) × (holds b (task_found tb s b f t).screens ≡ true))
      takes-held e k = (found_inside tb s b t e h, (found-takes t e h, k))

      task-ready : FirstReady Group.Task t
      unfolding fits rules_of effect_of
      task-ready =
          first-elim (RuleReady tb s b t) Rule.R18 (fits tb s b f t) (rules_of Group.Task) (
            λ x. takes (and_left _ _ x),
            λ _. (λ x. takes-held (and_left _ _ x) (and_right (is_found t) _ x), λ _. (takes, λ x. (λ _. nowhere-free tb s b t x h, never))),
          )

      apart_ready : RootFree tb b s.tasks → FirstReady Group.Apart t
      unfolding fits rules_of effect_of
      apart_ready free =
          first-elim (RuleReady tb s b t) Rule.R18 (fits tb s b f t) (rules_of Group.Apart) (
            λ _. free,
            λ _. (
              λ x. takes (and_left _ _ x),
              λ _. (
                λ x. takes-held (and_left _ _ x) (and_right f.ctp _ (and_right (is_found t) _ x)),
                λ _. (
                  λ x. takes (and_left _ _ x),
                  λ _. (
                    λ x. (found_inside tb s b t (root-found t (and_left (is_found_by_root t) _ x)) h, tt),
                    λ _. (λ x. (found_inside tb s b t (and_left _ _ x) h, tt), λ _. (takes, λ _. (λ _. free, never))),
                  ),
                ),
              ),
            ),
          )
        where
          root-found : (u : Option Found) → is_found_by_root u ≡ true → is_found u ≡ true
          root-found None e = e
          root-found (Some f) e = refl

    module _ (h : Sound tb s) (some : 1 ≤ count s) where
      -- the front task takes b where its top is not single-instance
      front-root : Plain tb (front_screen s) → Plain tb (front s).root
      front-root e = go (is_single_instance tb (front s).root) refl
        where
          go : (x : Bool) → is_single_instance tb (front s).root ≡ x → x ≡ false
          go true q =
              let k : TaskSound tb (front s) = All-at (TaskSound tb) s.tasks 0 no_stack some h.each in
              sym q ∙ ap (is_single_instance tb) (sym (ap (λ (l : List ℕ). get_or l 0 0) (k.lone q))) ∙ e
          go false q = refl

      -- what R9 does suits the front task, in each edition
      reordered-suits : Takes tb b (front s) → holds b (front s).screens ≡ true → Suits tb b (reordered s.edition s.main) (front s)
      unfolding reordered
      reordered-suits k x =
          if-elim (λ c. Suits tb b c (front s)) (eqb s.edition 7 && eqb s.main 1) Change.Renew Change.Lift (λ _. k) (λ _. (k, x))

      near-ready : Plain tb (front_screen s) → FirstReady Group.NotApart None
      unfolding fits rules_of effect_of
      near-ready e =
          let k : Takes tb b (front s) = record { plain_root = front-root e; plain_screen = plain } in
          first-elim (RuleReady tb s b None) Rule.R18 (fits tb s b f None) (rules_of Group.NotApart) (
            λ _. (some, tt),
            λ _. (
              λ x. (some, (k, and_right f.ctp _ x)),
              λ _. (λ x. (some, reordered-suits k (and_right f.rtf _ x)), λ _. (λ _. (some, k), never)),
            ),
          )

  -- the choice of a start in a sound session that is not empty can be carried out, but for the limits
  pub choose-ready : Sound tb s → 1 ≤ count s → ChoiceReady tb s b (choose tb s b f)
  unfolding choose choose_in group_of sought_by is_apart roots_once
  choose-ready h some =
      if-elim (λ g. ChoiceReady tb s b (choose_in tb s b f g)) (is_single_instance tb b) _ _ (λ e. instance-ready _ (seek_root-sought tb s b))
      (λ e. if-elim (λ g. ChoiceReady tb s b (choose_in tb s b f g)) (is_single_task tb b) _ _ (λ k. task-ready e _ (seek-sought tb s b e))
      (λ k. if-elim (λ g. ChoiceReady tb s b (choose_in tb s b f g)) (is_apart tb s b f) _ _ (λ _. apart e (standard-free tb s b (rw k e)))
      (λ a. near-ready e h some (or-false-right f.ntk _ a))))
    where
      apart : Plain tb b → RootFree tb b s.tasks → ChoiceReady tb s b (choose_in tb s b f Group.Apart)
      apart e free = apart_ready e _ (if-elim (Sought tb s b) f.mtk None _ (λ _. free) (λ _. seek-sought tb s b e)) free

-- ---- start and finishing start

module _ (tb : List ℕ) (s : State ℕ) (b w : ℕ) where
  -- what is known of a start that is not refused
  pub record Accepted : Type 0 where
    pub known : b < size_of tb
    pub seven_only : has_other_bit w ≡ false
    pub some : 1 ≤ count s
    pub task_fits : (makes_task (effect_in s (chosen tb s b w)) && eqb (count s) most_tasks) ≡ false
    pub screen_fits : overfills (effect_in s (chosen tb s b w)) (place_of (chosen tb s b w).found) s ≡ false

  pub start-accepted : refusal (start_checks tb s b w) ≡ 0 → Accepted
  start-accepted e =
      let c₃ = refusal-skip 2 (not (ltb b (size_of tb))) _ e in
      let c₄ = refusal-skip 3 (has_other_bit w) _ c₃.1 in
      let c₂₁ = refusal-skip 20 (is_empty s.tasks) _ c₄.1 in
      let c₂₃ = refusal-skip 22 _ _ c₂₁.1 in
      let c₂₄ = refusal-skip 23 _ _ c₂₃.1 in
      record {
        known = ltb-true b (size_of tb) (not-false _ c₃.0);
        seven_only = c₄.0;
        some = is_empty-length s.tasks c₂₁.0;
        task_fits = c₂₃.0;
        screen_fits = c₂₄.0;
      }

-- the rule chosen, carried out
pub carried-sound : (tb : List ℕ) (s : State ℕ) (b w : ℕ)
    → Sound tb s → refusal (start_checks tb s b w) ≡ 0 → Sound tb (started_by (chosen tb s b w) b s)
carried-sound tb s b w h e =
    let a = start-accepted tb s b w e in
    carry-sound tb b a.known (effect_in s (chosen tb s b w)) (place_of (chosen tb s b w).found) s
    (choose-ready tb s b (flags_of w) h a.some) a.task_fits a.screen_fits h
