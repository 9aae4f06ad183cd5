-- What is told of an accepted start is so: its rule is the first of its group that fits, the task is the one that the group's
-- search gives, and carrying the rule out there is the start.
use Prim.Native.Nat.{ℕ}
use mathlib.Core.Path.{◌≡◌, refl, ◌∙◌, ap}
use mathlib.Core.Bool.{false}
use mathlib.Core.List.{List}
use Rattle.model.specs.declared.Rule.{Rule}
use Rattle.model.specs.Lists.{FirstFit}
use Rattle.model.specs.Session.{State}
use Rattle.model.specs.Flags.{flags_of}
use Rattle.model.specs.Search.{place_of}
use Rattle.model.specs.Rules.{number_of, rules_of, fits, choose_in, choose}
use Rattle.model.specs.Calls.{chosen, started}
use Rattle.model.specs.Reasons.{how_found, rule_numbered, group_selected, task_sought, FitsFirst, IsFoundAt, carried_by}
use Rattle.model.proofs.RuleLaws.{choose-first}

-- each rule has its number
pub rule-numbered : (r : Rule) → rule_numbered (number_of r) ≡ r
unfolding rule_numbered rules_of
rule-numbered Rule.R1 = refl
rule-numbered Rule.R2 = refl
rule-numbered Rule.R3 = refl
rule-numbered Rule.R4 = refl
rule-numbered Rule.R5 = refl
rule-numbered Rule.R6 = refl
rule-numbered Rule.R7 = refl
rule-numbered Rule.R8 = refl
rule-numbered Rule.R9 = refl
rule-numbered Rule.R10 = refl
rule-numbered Rule.R11 = refl
rule-numbered Rule.R12 = refl
rule-numbered Rule.R13 = refl
rule-numbered Rule.R14 = refl
rule-numbered Rule.R15 = refl
rule-numbered Rule.R16 = refl
rule-numbered Rule.R17 = refl
rule-numbered Rule.R18 = refl

module _ (tb : List ℕ) (s : State ℕ) (b w : ℕ) where
  found-sought : (chosen tb s b w).found ≡ task_sought tb s b w
  unfolding choose choose_in
  found-sought = refl

  chosen-first : FirstFit (fits tb s b (flags_of w) (task_sought tb s b w)) (rules_of (group_selected tb s b w)) (chosen tb s b w).rule
  unfolding choose choose_in
  chosen-first = choose-first tb s b (flags_of w)

  pub fits-first : {n : ℕ} → n ≡ number_of (chosen tb s b w).rule → FitsFirst tb s b w n
  fits-first e =
      let r = rule-numbered (chosen tb s b w).rule in
      rw e (record { numbered = ap number_of r; first = rw r chosen-first })

  pub found_at : {p h : ℕ} → p ≡ place_of (chosen tb s b w).found → h ≡ how_found (chosen tb s b w).found → IsFoundAt tb s b w p h
  found_at p h = record { place = p ∙ ap place_of found-sought; how = h ∙ ap how_found found-sought }

  pub carried-started : {n p : ℕ} → n ≡ number_of (chosen tb s b w).rule → p ≡ place_of (chosen tb s b w).found
      → started false tb s b w ≡ carried_by s b w (rule_numbered n) p
  unfolding started carried_by
  carried-started e f = rw (e, f, rule-numbered (chosen tb s b w).rule)
