-- `effects::changed` meets its contract, change by change.
use Prim.Native.Nat.{ℕ, ◌<◌}
use mathlib.Core.Path.{◌≡◌, refl, sym, ◌∙◌, ap, subst}
use borrow.Author.Rules.{rules}
use lib.ListN.{length}
use Rattle.std.specs.Prelude.{Option}
use Rattle.model.specs.declared.Change.{Change}
use Rattle.model.specs.Effects.{changed}
use Rattle.session.specs.declared.Task.{Task}
use Rattle.session.specs.Stored.{view_task, pushed}
use Rattle.effects.specs.Carriable.{Alterable}
use Rattle.effects.specs.Fronted.{above_in, changed_task}
use Rattle.effects.proofs.Changes.{kept, clear-is, inside-by}
use Rattle.effects.proofs.Bases.{base-low, base-pushed}
use Rattle.effects.proofs.changed.Goals as goal

-- what is required, and what the contract says, of the change that the match found
module _ (t : Task) {change d : Change} (e : change ≡ d) where
  found : Alterable change t → Alterable d t
  found h = subst (λ (x : Change). Alterable x t) e h

  placed : (b : ℕ) {above : Option ℕ} → above ≡ above_in b change t → above ≡ above_in b d t
  placed b {above} h = subst (λ (x : Change). above ≡ above_in b x t) e h

  told : (b : ℕ) → changed_task b d t ≡ changed_task b change t
  told b = ap (λ (x : Change). changed_task b x t) (sym e)

pub cleared-requires : goal.cleared-requires
cleared-requires c =
    let t = c.args.t in
    let e = c.in-Clear.is in
    let l : length t.screens ≡ 32 = search rules in
    let blank = found t e c.requires.0 in
    (blank, inside-by t l blank c.args.b _ (placed t e c.args.b c.requires.1))

pub push-requires : goal.push-requires
push-requires c =
    let t = c.args.t in
    let l : length t.screens ≡ 32 = search rules in
    subst (λ (u : Task). u.height < 32) (sym c.base_of-base.ensures) (base-low t l c.args.change c.in-Renew.is c.requires.0)

pub returns-in-Keep : goal.returns-in-Keep
unfolding changed
returns-in-Keep c =
    let t = c.args.t in
    let l : length t.screens ≡ 32 = search rules in
    let e = c.in-Keep.is in
    sym (kept t l (found t e c.requires.0) (view_task t).screens refl) ∙ told t e c.args.b

pub returns-in-Clear : goal.returns-in-Clear
returns-in-Clear c =
    let t = c.args.t in
    let e = c.in-Clear.is in
    let l : length t.screens ≡ 32 = search rules in
    c.cleared.ensures ∙ clear-is t l (found t e c.requires.0) c.args.b (placed t e c.args.b c.requires.1) ∙ told t e c.args.b

pub returns-in-Renew : goal.returns-in-Renew
returns-in-Renew c =
    let t = c.args.t in
    let b = c.args.b in
    let l : length t.screens ≡ 32 = search rules in
    c.push.ensures
    ∙ ap (λ (u : Task). pushed u b) c.base_of-base.ensures
    ∙ base-pushed t l c.args.change c.in-Renew.is b c.requires.0
