-- The entry at the index of a start is decoded into the group of the start, and its search and its rules ask no more of the flags than
-- the entry says.
use Prim.Native.Nat.{ℕ, ◌+◌, ◌<◌}
use mathlib.Core.Path.{◌≡◌, refl, sym, ◌∙◌, ap}
use mathlib.Core.Bool.{Bool, true, false, not, ◌&&◌, ◌||◌}
use mathlib.Core.List.{List}
use native.Mathlib.Omega.{arith}
use lib.Dec.{eqb}
use Rattle.model.specs.declared.Flags.{Flags}
use Rattle.model.specs.declared.Found.{Found}
use Rattle.model.specs.declared.Group.{Group}
use Rattle.model.specs.declared.Rule.{Rule}
use Rattle.std.specs.Prelude.{if◌then◌else◌, Option}
use Rattle.model.specs.Table.{mode_of, is_single_top, is_single_task, is_single_instance}
use Rattle.model.specs.Session.{State, Stack, front_screen, top}
use Rattle.model.specs.Search.{holds}
use Rattle.model.specs.Rules.{is_apart, group_of, sought_by}
use Rattle.flag_chart.specs.Chart.{worth, class_of, chart_rule}
use Rattle.rules.specs.declared.Asks.{Asks}
use Rattle.rules.specs.Groups.{asks_of, task_rule, not_apart_rule, apart_rule, rule_by}
use Rattle.chart_starts.specs.Decoding.{class_in, group_in, asks_in}
use Rattle.chart_starts.proofs.Values.{summed-class, summed-asks}

-- ---- what the rules of a class ask for

abbrev asking : Bool → Bool → Bool → Bool → Bool → Asks
asking s n c r k = record { single = s; new_task = n; ctp = c; rtf = r; ctk = k }

-- `false` stands for what the rules of the class do not ask
module _ (u : Stack ℕ) (b : ℕ) where
  -- CTK, of all flags
  task-asks : (k : Bool) (t : Option Found) → task_rule (asking false false false false (k && true)) u b t ≡ task_rule (asking false false false false k) u b t
  task-asks true t = refl
  task-asks false t = refl

  -- RTF only without CTP
  near-asks : (s c r : Bool)
      → not_apart_rule (asking (s && true) false (c && true) (r && (not c && true)) false) u b ≡ not_apart_rule (asking s false c r false) u b
  near-asks s c r = near (eqb b (top u)) (holds b u.screens) s c r
    where
      near : (e h s c r : Bool)
          → (if e && (s && true || r && (not c && true) || c && true) then Rule.R7 else
          if c && true && h then Rule.R8 else
          if r && (not c && true) && h then Rule.R9 else Rule.R10)
          ≡ (if e && (s || r || c) then Rule.R7 else if c && h then Rule.R8 else if r && h then Rule.R9 else Rule.R10)
      near e h true false true = refl
      near e h true false false = refl
      near e h true true false = refl
      near e true true true true = refl
      near e false true true true = refl
      near e h false false true = refl
      near e h false false false = refl
      near e h false true false = refl
      near e true false true true = refl
      near e false false true true = refl

  -- CTP only without CTK, single only without both
  apart-asks : (s c k : Bool) (m : ℕ) (t : Option Found)
      → apart_rule (asking (s && (true && not (c || k))) false (c && (true && not k)) false (k && true)) u m b t
      ≡ apart_rule (asking s false c false k) u m b t
  apart-asks s c true m t = refl
  apart-asks s true false m t = refl
  apart-asks true false false m t = refl
  apart-asks false false false m t = refl

-- ---- decoded

-- the entry e of a start
pub record Decodes (tb : List ℕ) (v : State ℕ) (b : ℕ) (f : Flags) (e : ℕ) : Type 0 where
  pub group : group_in e ≡ group_of tb v b f
  pub sought : (g : Flags) → g.mtk ≡ (asks_in e).new_task → sought_by tb v b g (group_in e) ≡ sought_by tb v b f (group_in e)
  pub rule : (u : Stack ℕ) (m : ℕ) (t : Option Found) → rule_by (group_in e) (asks_in e) u m b t ≡ rule_by (group_in e) (asks_of tb b f) u m b t

module _ (tb : List ℕ) (v : State ℕ) (b : ℕ) (f : Flags) where
  abbrev caller : Bool
  caller = is_single_instance tb (front_screen v)

  abbrev entry : ℕ
  entry = chart_rule (mode_of tb b) caller f

  abbrev single : Bool
  single = eqb (mode_of tb b) 1 || f.stp

  module _ {k : ℕ} (class : class_of (mode_of tb b) caller f ≡ k) (low : k < 8) where
    abbrev eight : Bool
    eight = single && (eqb k 3 || (eqb k 5 && not (f.ctp || f.ctk)))

    abbrev sixteen : Bool
    sixteen = f.ctp && (eqb k 3 || (eqb k 5 && not f.ctk))

    abbrev thirty_two : Bool
    thirty_two = f.ctk && (eqb k 2 || eqb k 5)

    abbrev sixty-four : Bool
    sixty-four = f.rtf && (not f.ctp && eqb k 3)

    summed : entry ≡ k + worth 8 eight + worth 16 sixteen + worth 32 thirty_two + worth 64 sixty-four
    unfolding chart_rule
    summed = rw class

    class-is : class_in entry ≡ k
    class-is = ap class_in summed ∙ summed-class k low eight sixteen thirty_two sixty-four

    asks-are : asks_in entry ≡ asking eight (eqb k 4) sixteen sixty-four thirty_two
    asks-are = ap asks_in summed ∙ summed-asks k low eight sixteen thirty_two sixty-four

  decodes : (g : Group) → group_in entry ≡ g → group_of tb v b f ≡ g
      → ((h : Flags) → h.mtk ≡ (asks_in entry).new_task → sought_by tb v b h g ≡ sought_by tb v b f g)
      → ((u : Stack ℕ) (m : ℕ) (t : Option Found) → rule_by g (asks_in entry) u m b t ≡ rule_by g (asks_of tb b f) u m b t)
      → Decodes tb v b f entry
  decodes g e own sought rule = record { group = e ∙ sym own; sought = rw e sought; rule = rw e rule }

  decoded-instance : is_single_instance tb b ≡ true → Decodes tb v b f entry
  unfolding is_single_instance group_of sought_by
  decoded-instance i =
      let c : class_of (mode_of tb b) caller f ≡ 1 = rw i in
      decodes Group.Instance (rw (class-is c (omega arith))) (rw i) (λ h e. refl) (λ u m t. refl)

  decoded-task : is_single_instance tb b ≡ false → is_single_task tb b ≡ true → Decodes tb v b f entry
  unfolding is_single_instance is_single_task group_of sought_by
  decoded-task i j =
      let c : class_of (mode_of tb b) caller f ≡ 2 = rw (i, j) in
      decodes Group.Task (rw (class-is c (omega arith))) (rw (i, j)) (λ h e. refl)
      (λ u m t. ap (λ (x : Asks). task_rule x u b t) (asks-are c (omega arith)) ∙ task-asks u b f.ctk t)

  decoded-near : is_single_instance tb b ≡ false → is_single_task tb b ≡ false → is_apart tb v b f ≡ false → Decodes tb v b f entry
  unfolding is_single_instance is_single_task is_single_top is_apart group_of sought_by
  decoded-near i j a =
      let c : class_of (mode_of tb b) caller f ≡ 3 = rw (i, j, a) in
      decodes Group.NotApart (rw (class-is c (omega arith))) (rw (i, j, a)) (λ h e. refl)
      (λ u m t. ap (λ (x : Asks). not_apart_rule x u b) (asks-are c (omega arith)) ∙ near-asks u b single f.ctp f.rtf)

  decoded-new : is_single_instance tb b ≡ false → is_single_task tb b ≡ false → is_apart tb v b f ≡ true → f.mtk ≡ true → Decodes tb v b f entry
  unfolding is_single_instance is_single_task is_apart group_of sought_by
  decoded-new i j a n =
      let c : class_of (mode_of tb b) caller f ≡ 4 = rw (i, j, a, n) in
      let k = asks-are c (omega arith) in
      decodes Group.Apart (rw (class-is c (omega arith))) (rw (i, j, a))
      (λ h e. rw (e ∙ ap (λ (x : Asks). x.new_task) k, n)) (λ u m t. ap (λ (x : Asks). apart_rule x u m b t) k ∙ rw n)

  decoded-apart : is_single_instance tb b ≡ false → is_single_task tb b ≡ false → is_apart tb v b f ≡ true → f.mtk ≡ false → Decodes tb v b f entry
  unfolding is_single_instance is_single_task is_single_top is_apart group_of sought_by
  decoded-apart i j a n =
      let c : class_of (mode_of tb b) caller f ≡ 5 = rw (i, j, a, n) in
      let k = asks-are c (omega arith) in
      decodes Group.Apart (rw (class-is c (omega arith))) (rw (i, j, a))
      (λ h e. rw (e ∙ ap (λ (x : Asks). x.new_task) k, n))
      (λ u m t. ap (λ (x : Asks). apart_rule x u m b t) k ∙ rw n (apart-asks u b single f.ctp f.ctk m t))

  pub decoded : Decodes tb v b f entry
  decoded = go (is_single_instance tb b) (is_single_task tb b) (is_apart tb v b f) f.mtk refl refl refl refl
    where
      go : (i j a n : Bool) → is_single_instance tb b ≡ i → is_single_task tb b ≡ j → is_apart tb v b f ≡ a → f.mtk ≡ n → Decodes tb v b f entry
      go true j a n p q r s = decoded-instance p
      go false true a n p q r s = decoded-task p q
      go false false false n p q r s = decoded-near p q r
      go false false true true p q r s = decoded-new p q r s
      go false false true false p q r s = decoded-apart p q r s

-- by what was decoded

module _ {tb : List ℕ} {v : State ℕ} {b : ℕ} {f : Flags} {e : ℕ} (d : Decodes tb v b f e) {g : Group} (group : g ≡ group_in e)
    {a : Asks} (asks : a ≡ asks_in e) where
  -- what is sought by the group, where a new task is asked for or not
  pub found-by : {t : Option Found} → ((h : Flags) → h.mtk ≡ a.new_task → t ≡ sought_by tb v b h g) → t ≡ sought_by tb v b f g
  found-by {t} sought =
      let h : Flags = record { ntk = false; stp = false; mtk = a.new_task; ctp = false; rtf = false; ctk = false; noh = false } in
      sought h refl ∙ ap (sought_by tb v b h) group ∙ d.sought h (ap (λ (x : Asks). x.new_task) asks) ∙ ap (sought_by tb v b f) (sym group)

  pub rule-by : (u : Stack ℕ) (m : ℕ) (t : Option Found) → rule_by g a u m b t ≡ rule_by g (asks_of tb b f) u m b t
  rule-by u m t =
      (λ i. rule_by (group i) (asks i) u m b t) ∙ d.rule u m t ∙ ap (λ (x : Group). rule_by x (asks_of tb b f) u m b t) (sym group)
