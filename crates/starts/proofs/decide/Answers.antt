-- `starts::decide` meets its contract: refused for want of room, or accepted.
use mathlib.Core.Path.{◌∙◌, ap}
use Rattle.std.specs.Prelude.{Ok}
use Rattle.session.proofs.Known.{Sized, sized}
use Rattle.starts.specs.Steps.{accepted_by}
use Rattle.starts.proofs.Seeking.{unless-passed, unless-made, sought-filled, sought-plannable, sought-room}
use Rattle.starts.proofs.decide.Goals as goal

pub choose-requires : goal.choose-requires
choose-requires c =
    let z : Sized c.args.s = sized c.args.s _ c.well_formed.0 in
    let (tb, (f, (h, (s, task)))) = c.requires in sought-filled z h s task

pub accepted-requires : goal.accepted-requires
accepted-requires c =
    let z : Sized c.args.s = sized c.args.s _ c.well_formed.0 in
    let (tb, (f, (h, (s, task)))) = c.requires in
    let (room, chosen) = unless-made _ c.in_ok-chosen.ensures in
    (tb, (f, (h, rw chosen (sought-plannable z h s task (rw (sought-room z h s task) at room)))))

pub returns : goal.returns
returns c =
    let a = c.args in
    let x = a.sought in
    let (room, chosen) = unless-made _ c.in_ok-chosen.ensures in
    ap Ok (c.accepted.ensures ∙ ap (accepted_by a.finishing x.noh x.found a.b a.s a.t) chosen) ∙ unless-passed _ _ room
