-- The container after the first records of a list, and after one more.
use Prim.Native.Nat.{ℕ, ◌+◌, ◌≤◌, ◌<◌}
use mathlib.Core.Path.{◌≡◌, sym, ◌∙◌, ap}
use mathlib.Core.List.{List}
use lib.ListN.{length, get_or, drop}
use borrow.Author.Tests.{eq-eqb, ne_eqb}
use Rattle.std.specs.Prelude.{Result, Ok, Err}
use Rattle.std.specs.List.{IsSplitAt}
use Rattle.model.specs.declared.Refusal.{Refusal}
use Rattle.model.specs.Histories.{after}
use Rattle.model.proofs.HistoryLaws.{after-append}
use Rattle.container.specs.Calls.{back}
use Rattle.container.specs.Stored.{Reply, empty_container, called, called_as, step_of, by_container}
use Rattle.container.specs.Promised.{Promised}
use Rattle.container.specs.declared.Container.{Container}
use Rattle.container.proofs.Promise.{keeps-promise}
use Rattle.container_lists.specs.CallBytes.{call_of, first_bytes, first_call, calls_in}
use Rattle.container_lists.proofs.Reading.{behind, cut-calls, calls-whole, first-whole, first-operations, others-left}

-- ---- one record, by its kind

module _ (c : Container) (k : ℕ) (l : List ℕ) (r : Reply) where
  pub plain_step : k ≡ 1 → r ≡ called (step_of 0 l) c → r.container ≡ after by_container c (call_of k l)
  unfolding after call_of
  plain_step e h = ap (λ (x : Reply). x.container) h ∙ rw (eq-eqb k 1 e)

  pub recorded-step : (k ≡ 1 → ⊥) → k ≡ 2 → r ≡ called (step_of 1 l) c → r.container ≡ after by_container c (call_of k l)
  unfolding after call_of
  recorded-step n e h = ap (λ (x : Reply). x.container) h ∙ rw (ne_eqb k 1 n, eq-eqb k 2 e)

  pub one-back : (k ≡ 1 → ⊥) → (k ≡ 2 → ⊥) → k ≡ 3 → r ≡ called back c → r.container ≡ after by_container c (call_of k l)
  unfolding after call_of
  one-back n m e h = ap (λ (x : Reply). x.container) h ∙ rw (ne_eqb k 1 n, ne_eqb k 2 m, eq-eqb k 3 e)

pub no_call : (c : Container) (k : ℕ) (l : List ℕ) → (k ≡ 1 → ⊥) → (k ≡ 2 → ⊥) → (k ≡ 3 → ⊥) → c ≡ after by_container c (call_of k l)
unfolding after call_of
no_call c k l n m o = rw (ne_eqb k 1 n, ne_eqb k 2 m, ne_eqb k 3 o)

-- a refused call leaves the container
pub made_by : (c : Container) {r : Result Container Refusal} {d : Container} → r ≡ Ok d → d ≡ (called_as c r).container
made_by c e = sym (ap (λ (x : Result Container Refusal). (called_as c x).container) e)

pub left_by : (c : Container) {r : Result Container Refusal} {n : Refusal} → r ≡ Err n → c ≡ (called_as c r).container
left_by c e = sym (ap (λ (x : Result Container Refusal). (called_as c x).container) e)

-- ---- c, and then the bytes that are left, leave what the whole list does

abbrev pub Reached : List ℕ → Container → List ℕ → Type 0
Reached l c left = after by_container empty_container (calls_in l) ≡ after by_container c (calls_in left)

module _ (l : List ℕ) (c : Container) (left : List ℕ) (h : Reached l c left) where
  pub reached-more : {operations others : List ℕ} {n : ℕ} → 2 ≤ length left → n ≡ first_bytes left → IsSplitAt (behind left) n operations others
      → (d : Container) → d ≡ after by_container c (call_of (get_or left 0 0) operations) → Reached l d others
  reached-more {operations} {others} {n} long e s d k =
      let g : d ≡ after by_container c (first_call left) =
      k ∙ ap (λ (o : List ℕ). after by_container c (call_of (get_or left 0 0) o)) (first-operations left long e s) in
      let rest = calls_in (drop (2 + first_bytes left) left) in
      h
      ∙ ap (after by_container c) (calls-whole left (first-whole left long e s))
      ∙ after-append by_container (first_call left) rest c
      ∙ ap (λ (x : Container). after by_container x rest) (sym g)
      ∙ ap (λ (r : List ℕ). after by_container d (calls_in r)) (sym (others-left left long e s))

  -- the record that is left is cut
  pub reached-end : length left < 2 + first_bytes left → Promised (calls_in l) c
  unfolding after
  reached-end b = rw (sym (h ∙ ap (after by_container c) (cut-calls (length left) left b))) (keeps-promise (calls_in l))
