-- What `starts::accepted` calls may be called: the effect chosen can be carried out, and on the task at the index, and the screen that
-- is marked then stands where it is to close.
use mathlib.Core.Bool.{true}
use mathlib.Core.List.{List}
use Prim.Native.Nat.{ℕ}
use Rattle.model.specs.declared.Flags.{Flags}
use Rattle.session.proofs.Known.{Sized, sized}
use Rattle.session.proofs.StoredLaws.{blank-few, sound-blank}
use Rattle.session.specs.declared.Session.{Session}
use Rattle.session.specs.declared.Task.{Task}
use Rattle.rules.specs.Startable.{Startable}
use Rattle.rules.proofs.Tasks.{task-filled}
use Rattle.effects.specs.Carriable.{Changeable}
use Rattle.effects.proofs.Carriable.{Carriable}
use Rattle.effects.proofs.Fronts.{placed, main-low}
use Rattle.starts.specs.declared.Chosen.{Chosen}
use Rattle.starts.specs.Steps.{Plannable}
use Rattle.starts.proofs.Picks.{picked-carriable, picked-changeable}
use Rattle.starts.proofs.Planning.{picks, closing-requires}
use Rattle.starts.proofs.accepted.Goals as goal

-- what was chosen can be carried out, and on the task at the index
module _ {tb : List ℕ} {s : Session} {b : ℕ} {f : Flags} (z : Sized s) (h : Startable tb s b) {t : Task} {x : Chosen}
    (ok : Plannable tb s b f t x) where
  carriable : Carriable s x.effect x.place
  carriable = picked-carriable z h ok.room (picks z h ok true)

  changeable : Changeable x.effect t
  changeable = rw ok.task (picked-changeable z h ok.room (picks z h ok true))

pub shift_of-shift-requires : goal.shift_of-shift-requires
shift_of-shift-requires c =
    let a = c.args in
    let z : Sized a.s = sized a.s _ c.well_formed.0 in
    let (tb, (f, (h, ok))) = c.requires in placed a.s z a.chosen.place a.chosen.effect (carriable z h ok)

pub count_after-n-requires : goal.count_after-n-requires
count_after-n-requires c =
    let s = c.args.s in
    let (tb, (f, (h, ok))) = c.requires in blank-few s (sound-blank tb s h.ready.sound)

pub main_after-main-requires : goal.main_after-main-requires
main_after-main-requires c =
    let a = c.args in
    let z : Sized a.s = sized a.s _ c.well_formed.0 in
    let (tb, (f, (h, ok))) = c.requires in main-low a.s z a.chosen.place a.chosen.effect (carriable z h ok)

pub top-requires : goal.top-requires
top-requires c =
    let a = c.args in
    let z : Sized a.s = sized a.s _ c.well_formed.0 in
    let (tb, (f, (h, ok))) = c.requires in task-filled tb a.s a.b z h 0 h.some

pub above_for-above-requires : goal.above_for-above-requires
above_for-above-requires c =
    let z : Sized c.args.s = sized c.args.s _ c.well_formed.0 in
    let (tb, (f, (h, ok))) = c.requires in changeable z h ok

pub front_after-next-requires : goal.front_after-next-requires
front_after-next-requires c =
    let z : Sized c.args.s = sized c.args.s _ c.well_formed.0 in
    let (tb, (f, (h, ok))) = c.requires in (changeable z h ok, c.above_for-above.ensures)

pub closing_plan-plan-requires : goal.closing_plan-plan-requires
closing_plan-plan-requires c =
    let z : Sized c.args.s = sized c.args.s _ c.well_formed.0 in
    let (tb, (f, (h, ok))) = c.requires in
    closing-requires z h ok c.caller_closes-closes.result c.top.ensures c.mark_if-mark.ensures c.front_after-next.ensures
    c.count_after-n.ensures c.above_for-above.ensures c.closed_by-closed.ensures
