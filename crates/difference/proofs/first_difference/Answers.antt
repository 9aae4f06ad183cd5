-- The looks and then the Backs: where the answers agree and a screen is left, no Back is refused. What is found tells of both sessions.
use Prim.Native.Nat.{ℕ, ◌≤◌}
use mathlib.Core.Path.{◌≡◌, refl, sym, ◌∙◌}
use mathlib.Core.Logic.{◌↔◌}
use mathlib.Core.Bool.{Bool, true, false, not, ◌&&◌, false≢true}
use mathlib.Core.List.{[]}
use native.Mathlib.Omega.{arith}
use native.Mathlib.Nat.{zero-add}
use lib.Dec.{eqb}
use borrow.Author.Rules.{rules}
use borrow.Author.Tests.{eqb-true, eqb-false, not-true, not-false}
use Rattle.std.proofs.lemmas.Grind.{common_steps}
use Rattle.model.specs.declared.Answer.{Answer}
use Rattle.session.proofs.Known.{sized}
use Rattle.session.proofs.StoredLaws.{sound-view}
use Rattle.checks.proofs.SharedLaws.{shared-ready}
use Rattle.calls.proofs.Settling.{ready-seen}
use Rattle.difference.proofs.Reached.{Backed, reached-look, reached-shared, reached-backed, reached-fewer, both-count, both-back}
use Rattle.difference.proofs.Told.{backs-most, told}
use Rattle.difference.proofs.first_difference.Goals as goal

-- answers that agree in every number
abbrev agree : Answer → Answer → Bool
agree a b =
    eqb a.refusal b.refusal && (eqb a.screen b.screen && (eqb a.root b.root && (eqb a.height b.height && (eqb a.tasks b.tasks
    && (eqb a.main b.main && (eqb a.closed b.closed && (eqb a.edition b.edition && eqb a.no_history b.no_history)))))))

same : (a b : Answer) → true ≡ agree a b → a ≡ b
same a b e = grind (arith, common_steps)

differ : (a b : Answer) → false ≡ agree a b → a ≡ b → ⊥
differ a b e = grind (arith, common_steps)

agrees : (a b : Answer) (g : Bool) → g ≡ agree a b → a ≡ b → g ≡ true
agrees a b true e q = refl
agrees a b false e q = absurd (differ a b e q)

all_agree : (a b : Answer) (g : Bool) → g ≡ agree a b → (g ≡ true) ↔ (a ≡ b)
all_agree a b g e = (λ f. same a b (sym f ∙ e), agrees a b g e)

-- the two tests of the loop
goes_on : (g : Bool) (n : ℕ) → (g && not (eqb n 0)) ≡ true → (g ≡ true) × (1 ≤ n)
goes_on true n e = let z = eqb-false n 0 (not-true _ e) in (refl, omega arith)
goes_on false n e = absurd (false≢true e)

stops : (g : Bool) (n : ℕ) → (g && not (eqb n 0)) ≡ false → g ≡ true → n ≡ 0
stops true n e f = eqb-true n 0 (not-false _ e)
stops false n e f = absurd (false≢true f)

-- ---- the looks

pub look_at-a-requires : goal.look_at-a-requires
look_at-a-requires c = let a = c.args in ready-seen a.table.now a.first (sized a.first _ c.well_formed.1.0) c.requires.0

pub look_at-b-requires : goal.look_at-b-requires
look_at-b-requires c = let a = c.args in ready-seen a.table.now a.second (sized a.second _ c.well_formed.1.1.0) c.requires.1

pub loop-s-init : goal.loop-s-init
loop-s-init c =
    let a = c.args in
    let tb = a.table.now in
    let p = c.requires in
    record {
      before = [];
      one = reached-look tb p.0.good a.first (sized a.first _ c.well_formed.1.0) p.0 c.look_at-a.ensures;
      other = reached-look tb p.0.good a.second (sized a.second _ c.well_formed.1.1.0) p.1 c.look_at-b.ensures;
      screens = zero-add _;
      same = λ e. e;
    }

-- ---- the Backs

pub passed-requires : goal.passed-requires
passed-requires c =
    let tb = c.args.table.now in
    shared-ready tb c.loop-s.s (sym (reached-shared tb c.requires.0.good c.loop-s.invariant.one))

pub passed-requires-in-loop-s : goal.passed-requires-in-loop-s
passed-requires-in-loop-s c =
    let tb = c.args.table.now in
    shared-ready tb c.loop-s.t (sym (reached-shared tb c.requires.0.good c.loop-s.invariant.other))

module _ (c : goal.After-b-in-loop-s-1) where
  goes : (c.eq.result ≡ true) × (1 ≤ c.loop-s.s.n)
  goes = goes_on c.eq.result c.loop-s.s.n c.loop-s-test.true

  agreed : c.loop-s.a ≡ c.loop-s.b
  agreed = same c.loop-s.a c.loop-s.b (sym goes.0 ∙ c.eq.ensures)

  some : 1 ≤ c.loop-s.s.n
  some = goes.1

  -- what both leave
  left : Backed c.loop-s.s c.back-one.result × Backed c.loop-s.t c.back-other.result
  left =
      let tb = c.args.table.now in
      let good = c.requires.0.good in
      let l = c.loop-s in
      let more : 1 ≤ l.t.n = omega (arith, both-count l.invariant agreed, some) in
      let one = rw (c.passed.ensures.table, c.passed.ensures.session) at c.back-one.ensures in
      let other = rw (c.passed-in-loop-s.ensures.table, c.passed-in-loop-s.ensures.session) at c.back-other.ensures in
      (reached-backed tb good l.invariant.one some one, reached-backed tb good l.invariant.other more other)

pub overflow_add-backs : goal.overflow_add-backs
overflow_add-backs c =
    let a = c.args in
    let most = backs-most c.loop-s.invariant (sound-view a.table.now a.first c.requires.0.sound) in
    search rules

pub loop-s-smaller : goal.loop-s-smaller
loop-s-smaller c =
    let fewer = reached-fewer c.loop-s.invariant.one (some c) c.back-one.result.session (left c).0.session in
    omega arith

pub loop-s-preserved : goal.loop-s-preserved
loop-s-preserved c =
    both-back c.loop-s.invariant (agreed c) c.requires.0.good (some c) c.back-one.result c.back-other.result (left c).0 (left c).1

-- ---- what is found

pub returns : goal.returns
returns c =
    let a = c.args in
    let l = c.loop-s in
    let g = c.eq.result in
    let t = told l.invariant (sound-view a.table.now a.first c.requires.0.sound) g (all_agree l.a l.b g c.eq.ensures) (stops g l.s.n c.loop-s-test.false) in
    rw (c.ne.ensures, sym c.eq.ensures) (record { apart = t.0; same = t.1.0; alike = t.1.1.0; bound = t.1.1.1 })
