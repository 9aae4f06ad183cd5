-- The promise over lists of calls, and that a recorded step and a Back leave a container as it was.
use Prim.Native.Nat.{suc, ◌-◌}
use mathlib.Core.Path.{◌≡◌, refl, sym, ap, ◌∙◌}
use mathlib.Core.Bool.{Bool, true, false, not}
use mathlib.Core.List.{List, [], ◌∷◌, ◌++◌, map}
use native.Mathlib.Omega.{arith}
use lib.Dec.{eqb}
use lib.ListN.{length, take, length-map, length-take, length-append}
use lib.Seq.{get_or_at, take_at}
use borrow.Author.Tests.{eqb-true, eqb-false, ne_eqb}
use Rattle.std.specs.Prelude.{if◌then◌else◌}
use Rattle.model.specs.Refusals.{refusal}
use Rattle.model.specs.Histories.{after}
use Rattle.model.proofs.ListLaws.{All-append}
use Rattle.model.proofs.RefusalLaws.{refusal-skip}
use Rattle.panels.specs.Operations.{operations_in, good_operations}
use Rattle.panels.specs.Stored.{view_panels}
use Rattle.panels.proofs.PanelLaws.{view-low}
use Rattle.panels.proofs.OperationLaws.{carried-low}
use Rattle.container.specs.Calls.{most_steps, State, state, Step, Call, step, back, last_of, without_last, carried, stepped, backed, counted_in}
use Rattle.container.specs.Stored.{Reply, empty_container, view, hold, good_container, checks_of, refusal_at, called, step_of, by_container}
use Rattle.container.specs.Promised.{live_from, Tells, KeepsPromise, BackRestores}
use Rattle.container.specs.declared.Container.{Container}
use Rattle.container.proofs.Storing.{Low, Fits, view-hold, empty-held, held_steps, held-good}
use Rattle.container.proofs.KeptLaws.{is-good, each-low}
use Rattle.container.proofs.CallLaws.{reply, accepted, taken}
use Rattle.container.proofs.StepLaws.{both_true}
use Rattle.container.proofs.Telling.{empty-tells, passed, accepted-tells}

-- ---- lists of calls

record Holds (c : Container) (live : List Step) : Type 0 where
  stored : c ≡ hold (view c)
  tells : Tells (view c) live

held-holds : (s : State) (live : List Step) → Tells s live → Holds (hold s) live
held-holds s live t = record { stored = ap hold (sym (view-hold s)); tells = rw (view-hold s) t }

one_holds : (a : Call) (c : Container) (live : List Step) → Holds c live
    → Holds (called a c).container (if eqb (called a c).refusal 0 then counted_in a live else live)
unfolding called
one_holds a c live h = go (eqb (refusal_at a c) 0) refl
  where
    go : (b : Bool) → eqb (refusal_at a c) 0 ≡ b
        → let r = if b then reply (hold (carried a (view c))) 0 else reply c (refusal_at a c) in
        Holds r.container (if eqb r.refusal 0 then counted_in a live else live)
    go true e =
        let n = held_steps c (view c) h.stored in
        held-holds (carried a (view c)) (counted_in a live) (accepted-tells a c live n h.tells (eqb-true (refusal_at a c) 0 e))
    go false e = rw e h

all_hold : (calls : List Call) (c : Container) (live : List Step) → Holds c live → Holds (after by_container c calls) (live_from c live calls)
unfolding after
all_hold [] c live h = h
all_hold (a ∷ calls) c live h = all_hold calls (called a c).container _ (one_holds a c live h)

pub keeps-promise : KeepsPromise
keeps-promise calls =
    let h = all_hold calls empty_container [] (rw empty-held (held-holds (state [] []) [] empty-tells)) in
    let s = view (after by_container empty_container calls) in
    let f : Fits s = record { few = h.tells.few; low = h.tells.low; kept_low = h.tells.kept_low } in
    record { reached = refl; stored = h.stored; tells = h.tells; good = ap good_container h.stored ∙ held-good s f }

-- ---- a recorded step, and Back

last_snoc : {A : Type 0} (d x : A) (xs : List A) → last_of d (xs ++ (x ∷ [])) ≡ x
last_snoc d x xs = get_or_at xs x [] d (length (xs ++ (x ∷ [])) - 1) (omega (arith, length-append xs (x ∷ [])))

without_last-snoc : {A : Type 0} (x : A) (xs : List A) → without_last (xs ++ (x ∷ [])) ≡ xs
without_last-snoc x xs = take_at xs (x ∷ []) (length (xs ++ (x ∷ [])) - 1) (omega (arith, length-append xs (x ∷ [])))

module _ (p : Step) (c : Container) (e : p.recorded ≡ true) (h : refusal_at (step p) c ≡ 0) where
  undone : backed (stepped p (view c)) ≡ view c
  unfolding stepped backed
  undone = rw e (λ i. record { now = last_snoc [] (view c).now (view c).kept i; kept = without_last-snoc (view c).now (view c).kept i })

  good : good_container c ≡ true
  unfolding checks_of
  good = (both_true (good_operations p.operations) (good_container c) (refusal-skip 35 _ _ h).0).1

  more : length (stepped p (view c)).kept ≡ suc (length (view c).kept)
  unfolding stepped
  more = rw e (omega (arith, length-append (view c).kept ((view c).now ∷ [])))

  after-fits : Fits (stepped p (view c))
  unfolding stepped view
  after-fits =
      let g = is-good c good in
      let k = passed p c h in
      let n : (c.steps ≡ most_steps → ⊥) = eqb-false c.steps most_steps (rw e at k.1) in
      let ks = take c.steps c.kept in
      record {
        few = omega (arith, more, n, g.few, length-map ks view_panels, length-take c.steps c.kept);
        low = carried-low (operations_in p.operations) (view_panels c.now) k.0 (view-low c.now g.low);
        kept_low = rw e (All-append Low (map view_panels ks) (view_panels c.now ∷ []) (each-low ks g.each) (view-low c.now g.low, tt));
      }

  can-go-back : refusal_at back (hold (stepped p (view c))) ≡ 0
  unfolding refusal checks_of
  can-go-back =
      let s = stepped p (view c) in
      rw (held-good s after-fits, ne_eqb (hold s).steps 0 (λ z. omega (arith, z, held_steps (hold s) s refl, more)))

  back-undoes : called back (called (step p) c).container ≡ reply (hold (view c)) 0
  back-undoes =
      let s = stepped p (view c) in
      ap (λ (r : Reply). called back r.container) (sym (accepted (step p) c h))
      ∙ sym (accepted back (hold s) can-go-back)
      ∙ ap (λ (x : State). reply (hold (backed x)) 0) (view-hold s)
      ∙ ap (λ (x : State). reply (hold x) 0) undone

pub back-restores : BackRestores
back-restores r l c n h = back-undoes _ c (ap not (ne_eqb r 0 n)) (taken (step_of r l) c h)
