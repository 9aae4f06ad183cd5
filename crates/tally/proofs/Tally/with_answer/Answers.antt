-- The tally with an answer; the sums fit, since the tally is one and there is room.
use borrow.Author.Rules.{rules}
use Rattle.tally.proofs.Checks.{takes-decides, tally-sum}
use Rattle.tally.proofs.Steps.{with-answer, accepted-most, seen_most}
use Rattle.tally.proofs.Tally.with_answer.Goals as goal

pub overflow_add-result : goal.overflow_add-result
overflow_add-result c =
    let a = c.args in
    let h = (takes-decides a.self a.refusal a.height).holds c.requires in
    let s = tally-sum a.self h.tally in
    let l = seen_most h in
    let n = h.room in
    let e = c.from.ensures in
    let f = c.height_seen-seen.ensures in
    search rules

pub overflow_add-result-2 : goal.overflow_add-result-2
overflow_add-result-2 c =
    let a = c.args in
    let n = ((takes-decides a.self a.refusal a.height).holds c.requires).room in
    let l = accepted-most a.refusal in
    let e = c.accepted_by-accepted.ensures in
    search rules

pub overflow_add-result-3 : goal.overflow_add-result-3
overflow_add-result-3 c =
    let a = c.args in
    let n = ((takes-decides a.self a.refusal a.height).holds c.requires).room in
    search rules

pub returns : goal.returns
returns c =
    let a = c.args in
    let e = with-answer a.self a.refusal a.height c.height_seen-seen.ensures c.accepted_by-accepted.ensures in
    search rules
