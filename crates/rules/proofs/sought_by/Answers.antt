-- `rules::sought_by` meets its contract: each group seeks as 01 says.
use mathlib.Core.Path.{◌≡◌, refl, sym, ◌∙◌, ap}
use mathlib.Core.Bool.{Bool, true, false, not}
use mathlib.Core.List.{List}
use Prim.Native.Nat.{ℕ}
use borrow.Author.Rules.{rules}
use borrow.Author.Tests.{not-true, not-false}
use Rattle.model.specs.declared.Flags.{Flags}
use Rattle.model.specs.declared.Group.{Group}
use Rattle.model.specs.Session.{State}
use Rattle.model.specs.Rules.{sought_by}
use Rattle.model.proofs.Logic.{never}
use Rattle.session.specs.Stored.{view}
use Rattle.search.specs.Numbers.{sought_in}
use Rattle.rules.specs.Seeks.{seeks_in}
use Rattle.std.specs.Prelude.{None}
use Rattle.rules.proofs.sought_by.Goals as goal

abbrev is_instance : Group → Bool
is_instance Group.Instance = true
is_instance Group.Task = false
is_instance Group.NotApart = false
is_instance Group.Apart = false

module _ (tb : List ℕ) (s : State ℕ) (b : ℕ) (f : Flags) where
  nothing : (g : Group) → seeks_in g f.mtk ≡ false → None ≡ sought_by tb s b f g
  unfolding sought_by
  nothing Group.Instance e = never e
  nothing Group.Task e = never e
  nothing Group.NotApart e = refl
  nothing Group.Apart e = rw (not-false f.mtk e)

  something : (g : Group) → seeks_in g f.mtk ≡ true → sought_in (is_instance g) tb s.edition b s.tasks ≡ sought_by tb s b f g
  unfolding sought_by
  something Group.Instance e = refl
  something Group.Task e = refl
  something Group.NotApart e = never (sym e)
  something Group.Apart e = rw (not-true f.mtk e)

pub returns-then-not-seeks : goal.returns-then-not-seeks
returns-then-not-seeks c f e =
    let a = c.args in
    nothing a.table.now (view a.s) a.b f a.group (rw e (sym c.seeks.ensures ∙ not-true _ (ap not c.if-not-seeks.true)))

pub returns : goal.returns
unfolding view
returns c f e =
    let a = c.args in
    let alone : c.eq.result ≡ is_instance a.group = search rules in
    c.found_of.ensures ∙ c.seek.ensures
    ∙ ap (λ (x : Bool). sought_in x a.table.now a.s.edition a.b (view a.s).tasks) alone
    ∙ something a.table.now (view a.s) a.b f a.group (rw e (sym c.seeks.ensures ∙ not-false _ (ap not c.if-not-seeks.false)))
