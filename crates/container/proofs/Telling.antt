-- What a container tells of its live steps, call by call.
use Prim.Native.Nat.{ℕ, ◌+◌, ◌-◌, ◌<◌}
use mathlib.Core.Path.{◌≡◌, refl, sym, ap, ◌∙◌}
use mathlib.Core.Bool.{Bool, true, false}
use mathlib.Core.List.{List, [], ◌∷◌, ◌++◌, append-nil, append_assoc}
use native.Mathlib.Omega.{arith}
use lib.Dec.{eqb, ltb}
use lib.ListN.{length, get_or, take, length-append, get_or-append}
use lib.Seq.{take-append-add, take-append-le, take-take, length-take-le, get_or-take, get_or_at, take_at}
use borrow.Author.Tests.{ltb-true, ltb-false, eqb-true, eqb-false, not-false}
use Rattle.std.specs.Prelude.{if◌then◌else◌}
use Rattle.model.proofs.Logic.{All-at}
use Rattle.model.proofs.ListLaws.{All-append}
use Rattle.model.proofs.RefusalLaws.{refusal-skip}
use Rattle.panels.specs.Operations.{operations_in, makes_nine}
use Rattle.panels.proofs.OperationLaws.{carried-low}
use Rattle.container.specs.Calls.{most_steps, State, state, Step, Call, step, back, without_last, shown_by, stepped, backed, carried, counted_in, run_from, run}
use Rattle.container.specs.Stored.{view, has_no_place, checks_of, refusal_at}
use Rattle.container.specs.Promised.{Tells}
use Rattle.container.specs.declared.Container.{Container}
use Rattle.container.proofs.Storing.{Low}
use Rattle.container.proofs.KeptLaws.{All-take}

run-snoc : (xs : List ℕ) (p : Step) (steps : List Step) → run_from xs (steps ++ (p ∷ [])) ≡ shown_by p (run_from xs steps)
run-snoc xs p [] = refl
run-snoc xs p (q ∷ steps) = run-snoc (shown_by q xs) p steps

empty-nil : {A : Type 0} (xs : List A) → length xs ≡ 0 → xs ≡ []
empty-nil [] e = refl
empty-nil (x ∷ xs) e = absurd (omega (arith, e))

without_last-append : {A : Type 0} (xs ys : List A) → 0 < length ys → without_last (xs ++ ys) ≡ xs ++ without_last ys
without_last-append xs ys h =
    let e : length (xs ++ ys) - 1 ≡ length xs + (length ys - 1) = omega (arith, length-append xs ys) in
    rw e (take-append-add xs ys (length ys - 1))

pub empty-tells : Tells (state [] []) []
empty-tells =
    record {
      unrecorded = [];
      recorded = [];
      parted = refl;
      first = tt;
      second = tt;
      many = refl;
      few = omega arith;
      now = refl;
      kept = λ i h. absurd (omega (arith, h));
      low = omega arith;
      kept_low = tt;
    }

module _ (s : State) (live : List Step) (t : Tells s live) where
  -- ---- a step

  module _ (p : Step) (n : makes_nine (operations_in p.operations) s.now ≡ false) where
    now-more : shown_by p s.now ≡ run (live ++ (p ∷ []))
    now-more = ap (shown_by p) t.now ∙ sym (run-snoc [] p live)

    kept_more : (i : ℕ) → i < length (t.recorded ++ (p ∷ []))
        → get_or (s.kept ++ (s.now ∷ [])) i [] ≡ run (t.unrecorded ++ take i (t.recorded ++ (p ∷ [])))
    kept_more i h = go (ltb i (length t.recorded)) refl
      where
        go : (b : Bool) → ltb i (length t.recorded) ≡ b
            → get_or (s.kept ++ (s.now ∷ [])) i [] ≡ run (t.unrecorded ++ take i (t.recorded ++ (p ∷ [])))
        go true e =
            let l : i < length t.recorded = ltb-true i (length t.recorded) e in
            get_or-append s.kept (s.now ∷ []) [] i (omega (arith, t.many, l))
            ∙ t.kept i l
            ∙ ap (λ (l : List Step). run (t.unrecorded ++ l)) (sym (take-append-le i t.recorded (p ∷ []) (omega arith)))
        go false e =
            let l : length t.recorded ≡ i = omega (arith, ltb-false i (length t.recorded) e, h, length-append t.recorded (p ∷ [])) in
            get_or_at s.kept s.now [] [] i (t.many ∙ l)
            ∙ t.now
            ∙ ap run t.parted
            ∙ ap (λ (l : List Step). run (t.unrecorded ++ l)) (sym (take_at t.recorded (p ∷ []) i l))

    tells-recorded : p.recorded ≡ true → length s.kept < most_steps → Tells (state (shown_by p s.now) (s.kept ++ (s.now ∷ []))) (live ++ (p ∷ []))
    tells-recorded e room =
        let k = length-append s.kept (s.now ∷ []) in
        record {
          unrecorded = t.unrecorded;
          recorded = t.recorded ++ (p ∷ []);
          parted = ap (λ (l : List Step). l ++ (p ∷ [])) t.parted ∙ append_assoc t.unrecorded t.recorded (p ∷ []);
          first = t.first;
          second = All-append (λ q. q.recorded ≡ true) t.recorded (p ∷ []) t.second (e, tt);
          many = omega (arith, t.many, k, length-append t.recorded (p ∷ []));
          few = omega (arith, room, k);
          now = now-more;
          kept = kept_more;
          low = carried-low (operations_in p.operations) s.now n t.low;
          kept_low = All-append Low s.kept (s.now ∷ []) t.kept_low (t.low, tt);
        }

    -- nothing is recorded
    tells-unrecorded : p.recorded ≡ false → length s.kept ≡ 0 → Tells (state (shown_by p s.now) s.kept) (live ++ (p ∷ []))
    tells-unrecorded e none =
        let z = empty-nil t.recorded (sym t.many ∙ none) in
        record {
          unrecorded = t.unrecorded ++ (p ∷ []);
          recorded = [];
          parted =
              ap (λ (l : List Step). l ++ (p ∷ [])) (t.parted ∙ ap (λ (l : List Step). t.unrecorded ++ l) z ∙ append-nil t.unrecorded)
              ∙ sym (append-nil (t.unrecorded ++ (p ∷ [])));
          first = All-append (λ q. q.recorded ≡ false) t.unrecorded (p ∷ []) t.first (e, tt);
          second = tt;
          many = none;
          few = t.few;
          now = now-more;
          kept = λ i h. absurd (omega (arith, h));
          low = carried-low (operations_in p.operations) s.now n t.low;
          kept_low = t.kept_low;
        }

    tells-step : has_no_place p.recorded (length s.kept) ≡ false → Tells (stepped p s) (live ++ (p ∷ []))
    unfolding stepped
    tells-step h = go p.recorded refl h
      where
        go : (b : Bool) → p.recorded ≡ b → has_no_place b (length s.kept) ≡ false
            → Tells (state (shown_by p s.now) (if b then s.kept ++ (s.now ∷ []) else s.kept)) (live ++ (p ∷ []))
        go true e f = tells-recorded e (omega (arith, t.few, eqb-false (length s.kept) most_steps f))
        go false e f = tells-unrecorded e (eqb-true (length s.kept) 0 (not-false (eqb (length s.kept) 0) f))

  -- ---- Back

  tells-back : 0 < length s.kept → Tells (backed s) (without_last live)
  unfolding backed
  tells-back h =
      let m = t.many in
      let k = length t.recorded - 1 in
      let g : length s.kept - 1 ≡ k = omega arith in
      let a = length-take-le (length s.kept - 1) s.kept (omega arith) in
      let b = length-take-le k t.recorded (omega arith) in
      let w : without_last live ≡ t.unrecorded ++ take k t.recorded =
      ap without_last t.parted ∙ without_last-append t.unrecorded t.recorded (omega arith) in
      record {
        unrecorded = t.unrecorded;
        recorded = take k t.recorded;
        parted = w;
        first = t.first;
        second = All-take (λ q. q.recorded ≡ true) k t.recorded t.second;
        many = a ∙ g ∙ sym b;
        few = omega (arith, t.few);
        now = ap (λ (i : ℕ). get_or s.kept i []) g ∙ t.kept k (omega arith) ∙ ap run (sym w);
        kept = λ i l.
            get_or-take (length s.kept - 1) s.kept i [] (omega (arith, b, l))
            ∙ t.kept i (omega (arith, b, l))
            ∙ ap (λ (l : List Step). run (t.unrecorded ++ l)) (sym (take-take i k t.recorded (omega (arith, b, l))));
        low = All-at Low s.kept (length s.kept - 1) [] (omega arith) t.kept_low;
        kept_low = All-take Low (length s.kept - 1) s.kept t.kept_low;
      }

-- ---- an accepted call

-- what the checks of an accepted step say
pub passed : (p : Step) (c : Container) → refusal_at (step p) c ≡ 0
    → (makes_nine (operations_in p.operations) (view c).now ≡ false) × (has_no_place p.recorded c.steps ≡ false)
unfolding checks_of view
passed p c e =
    let h = refusal-skip 36 _ _ (refusal-skip 35 _ _ e).1 in
    (h.0, (refusal-skip 37 _ _ h.1).0)

pub accepted-tells : (a : Call) (c : Container) (live : List Step) → c.steps ≡ length (view c).kept → Tells (view c) live → refusal_at a c ≡ 0
    → Tells (carried a (view c)) (counted_in a live)
unfolding checks_of
accepted-tells (step p) c live n t e = let h = passed p c e in tells-step (view c) live t p h.0 (rw n at h.1)
accepted-tells back c live n t e =
    let h = (refusal-skip 37 _ _ (refusal-skip 35 _ _ e).1).0 in
    tells-back (view c) live t (omega (arith, n, eqb-false c.steps 0 h))
