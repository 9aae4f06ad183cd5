-- The group, the task that it seeks and the rule that it gives are those of the choice.
use Prim.Native.Nat.{ℕ}
use mathlib.Core.Path.{◌≡◌, refl, ◌∙◌}
use mathlib.Core.Bool.{Bool, true, false, ◌||◌}
use mathlib.Core.List.{List}
use borrow.Author.Tests.{ne_eqb}
use Rattle.model.specs.declared.Flags.{Flags}
use Rattle.model.specs.declared.Found.{Found}
use Rattle.model.specs.declared.Group.{Group}
use Rattle.model.specs.declared.Rule.{Rule}
use Rattle.model.specs.Lists.{first}
use Rattle.model.specs.Table.{mode_of, is_single_task, is_single_instance}
use Rattle.model.specs.Session.{State, front, front_screen}
use Rattle.model.specs.Rules.{rules_of, is_single, is_apart, group_of, sought_by, fits, choose_in, choose}
use Rattle.session.specs.declared.Task.{Task}
use Rattle.session.specs.Stored.{view_task}
use Rattle.rules.specs.declared.Asks.{Asks}
use Rattle.rules.specs.Groups.{asks_of, rule_by}
use Rattle.rules.proofs.Tasks.{Shows}
use Rattle.std.specs.Prelude.{Option, None, Some}

-- ---- the rules of a group, by values, are the definition's

-- u is the task found, or the front task where none was found
module _ (tb : List ℕ) (v : State ℕ) (b : ℕ) (f : Flags) where
  rule-by : (g : Group) (t : Option Found) → t ≡ sought_by tb v b f g → (u : Task) → Shows v t u
      → rule_by g (asks_of tb b f) (view_task u) v.main b t ≡ first Rule.R18 (fits tb v b f t) (rules_of g)
  unfolding fits rules_of is_single sought_by
  rule-by Group.Instance t e u h = refl
  rule-by Group.Task None e u h = refl
  rule-by Group.Task (Some x) e u h = rw (← h)
  rule-by Group.NotApart t e u h = let k : front v ≡ view_task u = rw e at h in rw (← k)
  rule-by Group.Apart None e u h = refl
  rule-by Group.Apart (Some x) e u h = rw (← h)

  -- the task that was sought and the rule by what is asked are the choice's
  module _ {g : Group} (group : g ≡ group_of tb v b f) {t : Option Found} (found : t ≡ sought_by tb v b f g) where
    pub found-chosen : t ≡ (choose tb v b f).found
    unfolding choose choose_in
    found-chosen = rw (found, group)

    pub rule-chosen : (u : Task) → Shows v t u → {m : ℕ} → v.main ≡ m → {a : Asks} → a ≡ asks_of tb b f
        → rule_by g a (view_task u) m b t ≡ (choose tb v b f).rule
    unfolding choose choose_in
    rule-chosen u h m a = rw (a, ← m) (rule-by g t found u h ∙ rw (found, group))

-- ---- the group, by the mode of b

module _ (tb : List ℕ) (s : State ℕ) (b : ℕ) (f : Flags) {mode : ℕ} (m : mode ≡ mode_of tb b) where
  pub group-instance : mode ≡ 3 → group_of tb s b f ≡ Group.Instance
  unfolding group_of is_single_instance
  group-instance e = rw (← m, e)

  pub group-task : mode ≡ 2 → group_of tb s b f ≡ Group.Task
  unfolding group_of is_single_instance is_single_task
  group-task e = rw (← m, e)

  module _ (n₃ : mode ≡ 3 → ⊥) (n₂ : mode ≡ 2 → ⊥) {apart : Bool} (e : apart ≡ (f.ntk || is_single_instance tb (front_screen s))) where
    pub group-apart : apart ≡ true → group_of tb s b f ≡ Group.Apart
    unfolding group_of is_single_instance is_single_task is_apart
    group-apart t = rw (← e, t, ← m, ne_eqb mode 3 n₃, ne_eqb mode 2 n₂)

    pub group-near : apart ≡ false → group_of tb s b f ≡ Group.NotApart
    unfolding group_of is_single_instance is_single_task is_apart
    group-near t = rw (← e, t, ← m, ne_eqb mode 3 n₃, ne_eqb mode 2 n₂)
