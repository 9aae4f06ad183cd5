-- `starts::ByRules::seek_task` meets its contract: the group and what is asked, then the task that the group seeks, then that task's index.
use mathlib.Core.Path.{◌≡◌, refl, sym, ◌∙◌, ap}
use Rattle.model.specs.Rules.{group_of, sought_by}
use Rattle.session.specs.Stored.{view, task_behind}
use Rattle.session.proofs.Known.{Sized, sized}
use Rattle.session.proofs.StoredLaws.{view-main}
use Rattle.rules.specs.declared.Asks.{Asks}
use Rattle.rules.proofs.Tasks.{own_row, top-row, task-filled, front-screen, stored-shows, index-stands}
use Rattle.rules.proofs.Groups.{found-chosen, rule-chosen}
use Rattle.starts.proofs.ByRulesSeeker.seek_task.Goals as goal

pub top-requires : goal.top-requires
top-requires c =
    let a = c.args in
    task-filled a.table.now a.s a.b (sized a.s _ c.well_formed.1.0) c.requires 0 c.requires.some

pub group_of-group-requires : goal.group_of-group-requires
group_of-group-requires c =
    let a = c.args in
    let z : Sized a.s = sized a.s _ c.well_formed.1.0 in
    (rw c.top.ensures (top-row a.table.now a.s a.b z c.requires 0 c.requires.some), own_row a.table.now a.s a.b z c.requires)

pub asks_of-asks-requires : goal.asks_of-asks-requires
asks_of-asks-requires c = let a = c.args in own_row a.table.now a.s a.b (sized a.s _ c.well_formed.1.0) c.requires

pub sought_by-found-requires : goal.sought_by-found-requires
sought_by-found-requires c = c.requires

pub returns : goal.returns
returns c =
    let a = c.args in
    let tb = a.table.now in
    let z : Sized a.s = sized a.s _ c.well_formed.1.0 in
    let g : c.group_of-group.result ≡ group_of tb (view a.s) a.b a.f =
    c.group_of-group.ensures _ (front-screen a.s c.requires.some ∙ sym c.top.ensures) in
    let t : c.sought_by-found.result ≡ sought_by tb (view a.s) a.b a.f c.group_of-group.result =
    c.sought_by-found.ensures a.f (sym (ap (λ (x : Asks). x.new_task) c.asks_of-asks.ensures)) in
    let i = c.index_of.ensures in
    let stands = index-stands tb a.s a.b z c.requires a.f _ t i in
    record {
      found = found-chosen tb (view a.s) a.b a.f g t;
      index = i;
      rule = rule-chosen tb (view a.s) a.b a.f g t (task_behind a.s c.index_of.result) (stored-shows a.s c.sought_by-found.result i stands)
          (view-main a.s) c.asks_of-asks.ensures;
      noh = refl;
    }
