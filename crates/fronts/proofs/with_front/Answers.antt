-- Nothing is added where the start is refused or leaves no task; otherwise the front screen, which is below 64.
use mathlib.Core.Path.{◌≡◌, sym, ◌∙◌, ap}
use Prim.Native.Nat.{ℕ, ◌<◌}
use mathlib.Core.List.{List}
use Rattle.session.specs.declared.Session.{Session}
use Rattle.model.specs.declared.Answer.{Answer}
use Rattle.fronts.specs.Fronts.{start_of, with_screen, with_front}
use Rattle.fronts.proofs.SetLaws.{with_none, with-empty, with_shift}
use Rattle.fronts.proofs.Starting.{accepted-ready, front-known}
use Rattle.fronts.proofs.with_front.Goals as goal

-- the set with the screen of the answer that was given
by_answer : (tb : List ℕ) (s : Session) (b set w : ℕ) {x : Answer} → x ≡ (start_of tb s b w).answer → with_screen set x ≡ with_front tb s b set w
unfolding with_front
by_answer tb s b set w e = ap (with_screen set) e

pub returns-then-answer-ne0 : goal.returns-then-answer-ne0
returns-then-answer-ne0 c =
    let a = c.args in
    sym (with_none a.set c.start_answer-answer.result c.if-answer-ne0.true)
    ∙ by_answer a.on.now.table.now a.on.now.session.now a.b a.set a.word c.start_answer-answer.ensures

pub returns-then-answer-eq0 : goal.returns-then-answer-eq0
returns-then-answer-eq0 c =
    let a = c.args in
    sym (with-empty a.set c.start_answer-answer.result c.if-answer-eq0.true)
    ∙ by_answer a.on.now.table.now a.on.now.session.now a.b a.set a.word c.start_answer-answer.ensures

-- the front screen of an accepted start is below 64
below : (tb : List ℕ) (s : Session) (b w : ℕ) {x : Answer} → x ≡ (start_of tb s b w).answer → x.refusal ≡ 0 → (x.tasks ≡ 0 → ⊥) → x.screen < 64
below tb s b w e accepted some = front-known tb s b w (accepted-ready tb s b w (ap (λ (x : Answer). x.refusal) (sym e) ∙ accepted)) e accepted some

pub overflow_shl-result : goal.overflow_shl-result
overflow_shl-result c =
    let a = c.args in
    below a.on.now.table.now a.on.now.session.now a.b a.word c.start_answer-answer.ensures c.if-answer-ne0.false c.if-answer-eq0.false

pub returns : goal.returns
returns c =
    let a = c.args in
    let tb = a.on.now.table.now in
    let s = a.on.now.session.now in
    let less = below tb s a.b a.word c.start_answer-answer.ensures c.if-answer-ne0.false c.if-answer-eq0.false in
    with_shift a.set c.start_answer-answer.result c.if-answer-ne0.false c.if-answer-eq0.false less
    ∙ by_answer tb s a.b a.set a.word c.start_answer-answer.ensures
