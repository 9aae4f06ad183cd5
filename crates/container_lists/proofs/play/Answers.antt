-- The container so far, and then the bytes that are left, leave what the whole list does.
use mathlib.Core.Path.{sym, ap}
use native.Mathlib.Omega.{arith}
use Rattle.model.specs.Histories.{after}
use Rattle.container.specs.Stored.{by_container}
use Rattle.container.specs.declared.Container.{Container}
use Rattle.container.proofs.Promise.{keeps-promise}
use Rattle.container_lists.specs.CallBytes.{calls_in}
use Rattle.container_lists.proofs.Reading.{others-shorter, first-cut}
use Rattle.container_lists.proofs.EveryList.{every}
use Rattle.container_lists.proofs.Playing.{reached-more, reached-end}
use Rattle.container_lists.proofs.play.Goals as goal

pub loop-left-init : goal.loop-left-init
loop-left-init c =
    let l = c.args.calls.now in
    ap (λ (x : Container). after by_container x (calls_in l)) (sym c.empty-c.ensures)

pub returns-in_default-split_at_checked : goal.returns-in_default-split_at_checked
returns-in_default-split_at_checked c =
    let l = c.loop-left in
    record {
      promised =
          reached-end c.args.calls.now l.c l.left.now l.invariant
          (first-cut l.left.now c.in-len2-up.len_at_least c.bytes_of.ensures c.in_default-split_at_checked.ensures.cases);
      every = every;
      promise = keeps-promise;
    }

pub loop-left-smaller : goal.loop-left-smaller
loop-left-smaller c = others-shorter c.loop-left.left.now c.in-len2-up.len_at_least c.bytes_of.ensures c.in-Some.ensures.cases

pub loop-left-preserved : goal.loop-left-preserved
loop-left-preserved c =
    let l = c.loop-left in
    reached-more c.args.calls.now l.c l.left.now l.invariant c.in-len2-up.len_at_least c.bytes_of.ensures c.in-Some.ensures.cases
    _ c.called.ensures

pub returns : goal.returns
returns c =
    let l = c.loop-left in
    record {
      promised = reached-end c.args.calls.now l.c l.left.now l.invariant (omega (arith, c.in_default.len_below));
      every = every;
      promise = keeps-promise;
    }
