-- `play::run` meets its contract: each turn of the loop carries out one record more, and says it.
use Prim.Native.Nat.{◌+◌, ◌≤◌, ◌<◌}
use mathlib.Core.Path.{◌≡◌, refl, sym, ◌∙◌, ap}
use mathlib.Core.Bool.{true}
use mathlib.Core.List.{List, [], ◌∷◌, ◌++◌, append-nil}
use native.Mathlib.Omega.{arith}
use lib.ListN.{length, drop, length-append}
use lib.Seq.{append_snoc}
use Rattle.model.specs.Player.{Record, is_start, records_in}
use Rattle.model.specs.Explained.{reason_for}
use Rattle.model.specs.Refusals.{refusal_in, numbered}
use Rattle.session.specs.Stored.{view}
use Rattle.session.proofs.Known.{sized}
use Rattle.records.specs.Records.{request_for}
use Rattle.records.proofs.Inputs.{record_with, behind-one, behind-end, starts-or-cut}
use Rattle.checks.specs.Shared.{shared_refusal}
use Rattle.calls.specs.StoredCalls.{reply_stored}
use Rattle.calls.specs.RecordPlans.{plan_in}
use Rattle.calls.proofs.PlanSettling.{Gives}
use Rattle.calls.proofs.RecordSettling.{record-gives}
use Rattle.reasons.specs.StoredReasons.{reason_made}
use Rattle.play.specs.Manners.{longest_said}
use Rattle.play.proofs.Replies.{table-shared}
use Rattle.play.proofs.Reasoned.{reason-said}
use Rattle.play.proofs.Playing.{reached-none, reached-more, reached-runs, room-left}
use Rattle.play.proofs.run.Goals as goal
use Rattle.play.proofs.run.Goals.{After-end_of-p, After-decide-decided}

pub loop-p-init : goal.loop-p-init
loop-p-init c =
    let a = c.args in
    ([], (refl, reached-none a.manner a.table.now a.out.now a.from a.tally c.requires.playable (sized a.from _ c.well_formed.1.0)))

-- ---- the record at p

-- it, and those behind it
one_more : (c : After-end_of-p)
    → records_in c.args.input.now ≡ c.loop-p.invariant.0 ++ (record_with c.read-r.result ∷ records_in (drop c.end_of-p.result c.args.input.now))
one_more c =
    let input = c.args.input.now in
    c.loop-p.invariant.1.0
    ∙ ap (λ (rs : List Record). c.loop-p.invariant.0 ++ rs) (behind-one input c.loop-p.p c.loop-p-test.true c.read-r.ensures c.end_of-p.ensures)

-- there is room for what is said of it
room : (c : After-end_of-p) → c.loop-p.at + longest_said c.args.manner ≤ length c.args.out.now
room c =
    let rs = c.loop-p.invariant.0 in
    let all = records_in c.args.input.now in
    let rest = records_in (drop c.end_of-p.result c.args.input.now) in
    let n : length rs < length all =
    omega (arith, ap (λ (l : List Record). length l) (one_more c), length-append rs (record_with c.read-r.result ∷ rest)) in
    room-left c.args.manner c.loop-p.at (length rs) (length all) (length c.args.out.now) c.loop-p.invariant.1.1.bound n c.requires.input_in_bounds

-- the table's refusal is the one that all calls share
shared : (c : After-decide-decided) → refusal_in c.check-checked.result ≡ shared_refusal c.args.table.now c.loop-p.s
shared c = c.check-checked.ensures ∙ table-shared c.args.table.now c.loop-p.s c.loop-p.invariant.1.1.playable

pub invariant_of-on : goal.invariant_of-on
invariant_of-on c =
    record { says = c.check-checked.ensures ∙ table-shared c.args.table.now c.loop-p.s c.loop-p.invariant.1.1.playable }

-- ---- what was decided of it

-- it gives what the record gives
gives : (c : After-decide-decided)
    → Gives c.loop-p.s (plan_in (numbered c.decide-decided.result)) (reply_stored c.args.table.now c.loop-p.s (request_for c.read-r.result))
gives c =
    let r = c.read-r.result in
    rw c.decide-decided.ensures
    (record-gives c.args.table.now c.loop-p.s c.loop-p.invariant.1.1.sized (refusal_in c.check-checked.result) (shared c) r.screen r.word r.asked)

-- and its reason is that of the session before it
reason : (c : After-decide-decided) → is_start c.read-r.result.kind ≡ true
    → reason_made (numbered c.decide-decided.result) ≡ reason_for c.args.table.now (view c.loop-p.s) (request_for c.read-r.result)
reason c h =
    let r = c.read-r.result in
    let reached = c.loop-p.invariant.1.1 in
    ap reason_made c.decide-decided.ensures
    ∙ reason-said c.args.table.now c.loop-p.s reached.sized reached.playable.blank (refusal_in c.check-checked.result) (shared c) r.screen r.word r.asked
    (starts-or-cut c.args.input.now c.loop-p.p c.read-r.ensures h)

pub carry_out-answer-requires : goal.carry_out-answer-requires
carry_out-answer-requires c = rw c.plan_of.ensures (gives (goal.at.carry_out-answer-requires c).After-decide-decided).can

pub speak-spoken-requires : goal.speak-spoken-requires
speak-spoken-requires c = omega (arith, room (goal.at.speak-spoken-requires c).After-end_of-p, c.loop-p.auto.out)

pub loop-p-preserved : goal.loop-p-preserved
loop-p-preserved c =
    let was = goal.at.loop-p-preserved c in
    let d = was.After-decide-decided in
    let rs = c.loop-p.invariant.0 in
    let r = record_with c.read-r.result in
    let e = c.speak-spoken.ensures in
    let fits = room was.After-end_of-p in
    let told = c.carry_out-answer.ensures ∙ rw c.plan_of.ensures (gives d).gives in
    let more = reached-more c.loop-p.invariant.1.1 (omega arith) r told (reason d) (record { place = e.place; text = e.text }) e.bound e.tally in
    (rs ++ (r ∷ []), (one_more was.After-end_of-p ∙ sym (append_snoc rs r (records_in (drop c.end_of-p.result c.args.input.now))), more))

-- ---- all records are run

pub returns : goal.returns
returns c =
    let (rs, (all, reached)) = c.loop-p.invariant in
    let e : records_in c.args.input.now ≡ rs =
    all ∙ ap (λ (qs : List Record). rs ++ qs) (behind-end c.args.input.now c.loop-p.p c.loop-p-test.false) ∙ append-nil rs in
    rw e (reached-runs reached)
