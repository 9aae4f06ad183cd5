-- Affinity 0 is no affinity, in every start: from what the searches find.
use Prim.Native.Nat.{ℕ, zero, suc, ◌≤◌}
use mathlib.Core.Path.{◌≡◌, refl, sym, ◌∙◌}
use mathlib.Core.Bool.{true, false}
use mathlib.Core.List.{List}
use native.Mathlib.Omega.{arith}
use Rattle.model.specs.declared.Choice.{Choice}
use Rattle.model.specs.declared.Flags.{Flags}
use Rattle.model.specs.declared.By.{By}
use Rattle.model.specs.declared.Found.{Found}
use Rattle.model.specs.declared.Group.{Group}
use Rattle.model.specs.declared.Rule.{Rule}
use Rattle.model.specs.Lists.{find, first}
use Rattle.model.specs.Table.{is_single_task, is_single_instance}
use Rattle.model.specs.Session.{Stack, State, no_stack, task_at}
use Rattle.model.specs.Flags.{flags_of}
use Rattle.model.specs.Search.{has_root, seek_root, seeks_by_root, seek, root_at, affinity_at}
use Rattle.model.specs.Rules.{number_of, rules_of, is_apart, group_of, sought_by, fits, choose_in, choose}
use Rattle.model.specs.Calls.{chosen}
use Rattle.model.specs.Reasons.{reason_of}
use Rattle.model.specs.Affinity.{seeks_task, AffinityZero}
use Rattle.model.proofs.Logic.{if-elim, Each, first-elim, never, contradiction}
use Rattle.model.proofs.SearchLaws.{HasRoot, HasAffinity, FirstTask, NoTask, found-cases, FindsByRoot, Finds, root-decides, find_first, find-nowhere, seek_root-exact, seek-exact}
use Rattle.std.specs.Prelude.{Option, None, Some}

module _ (tb : List ℕ) (s : State ℕ) (b : ℕ) where
  abbrev ts : List (Stack ℕ)
  ts = s.tasks

  abbrev by_root : ℕ
  by_root = find (has_root b) ts

  abbrev Zero : Rule → Option Found → Type 0
  Zero r t = AffinityZero tb s b (reason_of (record { rule = r; found = t }))

  -- the edition seeks by root
  abbrev Rooted : Type 0
  Rooted = seeks_by_root tb s.edition b ≡ true

  -- what a search that begins with the roots tells
  abbrev ToldBy : By → ℕ → Type 0
  ToldBy By.Root p = (1 ≤ p) × (by_root ≡ p)
  ToldBy By.Affinity p = (Rooted → by_root ≡ 0) × HasAffinity tb b (task_at ts p)

  abbrev Told : Option Found → Type 0
  Told None = Rooted → by_root ≡ 0
  Told (Some f) = ToldBy f.by f.place

  no-root : NoTask (HasRoot b) ts → by_root ≡ 0
  no-root = (find-nowhere no_stack (root-decides b) ts).1

  first-told : (p : ℕ) → FirstTask (HasRoot b) ts p → (1 ≤ p) × (by_root ≡ p)
  first-told zero h = absurd (omega (arith, h.least))
  first-told (suc k) h = (h.least, (find_first no_stack (root-decides b) ts k).1 h)

  root_told : (t : Option Found) → FindsByRoot b ts t → Told t
  root_told = found-cases (λ t. FindsByRoot b ts t → Told t) (λ h _. no-root h) first-told (λ p h. absurd h)

  told : (t : Option Found) → Finds tb s.edition b ts t → Told t
  told =
      found-cases (λ t. Finds tb s.edition b ts t → Told t) (λ h k. no-root (h.0 k)) (λ p h. first-told p h.1)
      (λ p h. (λ k. no-root (h.0 k), h.1.fits))

  -- a task was sought
  told-none : (r : Rule) → Told None → Zero r None
  told-none r h =
      record {
        screen = λ z e. absurd (omega arith);
        task = λ e. absurd (omega arith);
        root = λ _ k. (λ e. absurd (omega arith), λ l. absurd (omega (arith, h k)));
        first = λ e. absurd (omega arith);
      }

  told-root : (r : Rule) (p : ℕ) → Told (root_at p) → Zero r (root_at p)
  told-root r p h =
      record {
        screen = λ z e. absurd (omega arith);
        task = λ e. absurd (omega arith);
        root = λ _ k. (λ e. omega (arith, h.0, h.1), λ l. refl);
        first = λ e. sym h.1;
      }

  told-affinity : (r : Rule) (p : ℕ) → Told (affinity_at p) → Zero r (affinity_at p)
  told-affinity r p h =
      record {
        screen = λ z e. h.1.1 z;
        task = λ e z. h.1.1 (sym h.1.0.1 ∙ z);
        root = λ _ k. (λ e. absurd (omega arith), λ l. absurd (omega (arith, h.0 k)));
        first = λ e. absurd (omega arith);
      }

  sought : (r : Rule) (t : Option Found) → Told t → Zero r t
  sought r = found-cases (λ t. Told t → Zero r t) (told-none r) (told-root r) (told-affinity r)

  -- none was
  unsought : (r : Rule) → seeks_task (number_of r) ≡ false → Zero r None
  unsought r n =
      record {
        screen = λ z e. absurd (omega arith);
        task = λ e. absurd (omega arith);
        root = λ q. contradiction q n;
        first = λ e. absurd (omega arith);
      }

  module _ (f : Flags) where
    abbrev Chosen : Choice → Type 0
    Chosen c = AffinityZero tb s b (reason_of c)

    -- the rule of a group, where t was found
    abbrev rule_in : Group → Option Found → Rule
    rule_in g t = first Rule.R18 (fits tb s b f t) (rules_of g)

    unsought-in : (g : Group) → Each (λ r. seeks_task (number_of r) ≡ false) Rule.R18 (fits tb s b f None) (rules_of g)
        → Zero (rule_in g None) None
    unsought-in g h =
        unsought (rule_in g None) (first-elim (λ r. seeks_task (number_of r) ≡ false) Rule.R18 (fits tb s b f None) (rules_of g) h)

    by-root : (g : Group) → Zero (rule_in g (seek_root b ts)) (seek_root b ts)
    by-root g = let t = seek_root b ts in sought (rule_in g t) t (root_told t ((seek_root-exact b ts t).0 refl))

    by_both : (g : Group) → Zero (rule_in g (seek tb s.edition b ts)) (seek tb s.edition b ts)
    by_both g = let t = seek tb s.edition b ts in sought (rule_in g t) t (told t ((seek-exact tb s.edition b ts t).0 refl))

    -- R7 to R10; R11, or what is sought
    near : Chosen (choose_in tb s b f Group.NotApart)
    unfolding choose_in sought_by fits rules_of
    near = unsought-in Group.NotApart (λ _. refl, λ _. (λ _. refl, λ _. (λ _. refl, λ _. (λ _. refl, never))))

    apart : Chosen (choose_in tb s b f Group.Apart)
    unfolding choose_in sought_by fits rules_of
    apart =
        if-elim (λ t. Zero (rule_in Group.Apart t) t) f.mtk None (seek tb s.edition b ts)
        (λ m. unsought-in Group.Apart (λ _. refl, contradiction m)) (λ _. by_both Group.Apart)

    choose-zero : Chosen (choose tb s b f)
    unfolding choose choose_in group_of sought_by
    choose-zero =
        if-elim (λ g. Chosen (choose_in tb s b f g)) (is_single_instance tb b) _ _ (λ _. by-root Group.Instance)
        (λ _. if-elim (λ g. Chosen (choose_in tb s b f g)) (is_single_task tb b) _ _ (λ _. by_both Group.Task)
        (λ _. if-elim (λ g. Chosen (choose_in tb s b f g)) (is_apart tb s b f) _ _ (λ _. apart) (λ _. near)))

-- of every start
pub affinity-zero : (tb : List ℕ) (s : State ℕ) (b w : ℕ) → AffinityZero tb s b (reason_of (chosen tb s b w))
affinity-zero tb s b w = choose-zero tb s b (flags_of w)
