-- Each record has a kind of 1 to 5, a screen of the table and no bit outside the seven: it draws none of 3, 4, 9.
use Prim.Native.Nat.{ℕ, zero, suc, ◌+◌, ◌/◌, ◌%◌, ◌≤◌, ◌<◌, min}
use mathlib.Core.Path.{◌≡◌, refl, sym, ◌∙◌, ap}
use mathlib.Core.Bool.{false, not}
use mathlib.Core.List.{List, ◌++◌}
use native.Mathlib.Nat.{mod-lt}
use native.Mathlib.Omega.{arith}
use lib.Arith.{bin_ind}
use lib.Bits.{bit_and, and_step}
use lib.Dec.{eqb}
use borrow.Author.Tests.{eq-eqb, eqb-false, lt-ltb}
use Rattle.model.specs.Refusals.{Check, accepted, refusal}
use Rattle.model.specs.Table.{size_of}
use Rattle.model.specs.Answers.{look_at}
use Rattle.model.specs.Flags.{seven_of, has_other_bit}
use Rattle.model.specs.Calls.{Call, launch, start, finishing_start, back, look, start_checks, checks_in, own_checks}
use Rattle.model.specs.Player.{Request, request_of, records_in}
use Rattle.model.proofs.Logic.{Each, if-elim, first-elim, contradiction}
use Rattle.flags.proofs.Masks.{SEVEN, seven}
use Rattle.records.specs.Records.{bytes_of_record}
use Rattle.records.proofs.Words.{word_back}
use Rattle.session.specs.declared.Session.{Session}
use Rattle.session.specs.Stored.{view, sound_stored}
use Rattle.calls.specs.StoredCalls.{given_by, refusal_stored, call_stored, reply_stored}
use Rattle.navigator.specs.Records.{played_stored}
use Rattle.loads.specs.Generator.{step, next, record_from}
use Rattle.loads.specs.Promises.{NoneOf349}

-- ---- a word under a mask

-- the same mask a second time changes nothing
twice : (x y : ℕ) → bit_and (bit_and x y) y ≡ bit_and x y
twice x =
    bin_ind (λ (n : ℕ). (y : ℕ) → bit_and (bit_and n y) y ≡ bit_and n y) (λ y. refl)
    (λ n ih y.
    let e = and_step n y in
    let h : bit_and n y / 2 ≡ bit_and (n / 2) (y / 2) = omega arith in
    let m : bit_and n y % 2 ≡ min (n % 2) (y % 2) = omega arith in
    let d : bit_and (bit_and n y / 2) (y / 2) ≡ bit_and (n / 2) (y / 2) = rw h (ih (y / 2)) in
    let f = and_step (bit_and n y) y in
    omega arith)
    x

-- no bit outside the seven is left
seven-alone : (w : ℕ) → has_other_bit (seven_of w) ≡ false
unfolding has_other_bit
seven-alone w =
    ap not (eq-eqb (seven_of (seven_of w)) (seven_of w)
    (sym (seven (seven_of w)) ∙ ap (λ (x : ℕ). bit_and x SEVEN) (sym (seven w)) ∙ twice w SEVEN ∙ seven w))

-- ---- what checks give

-- the numbers that are none of the three
under : (r : ℕ) → r ≤ 2 → NoneOf349 r
under r h = (λ e. omega arith, (λ e. omega arith, λ e. omega arith))

above : (r : ℕ) → 10 ≤ r → NoneOf349 r
above r h = (λ e. omega arith, (λ e. omega arith, λ e. omega arith))

-- each check that applies has one of these
abbrev Fine : List Check → Type 0
Fine own = Each (λ k. NoneOf349 k.refusal) accepted (λ k. k.applies) own

module _ (tb : List ℕ) (c : Session) where
  -- an accepted answer has the refusal 0, another its number
  settled : (k : Call) (n : ℕ) → (given_by tb c k n).answer.refusal ≡ n
  unfolding look_at
  settled k zero = refl
  settled k (suc n) = refl

  -- 1, 2 and 20 are none of the three
  call_none : (k : Call) → Fine (own_checks tb (view c) k) → NoneOf349 (call_stored tb c k).answer.refusal
  unfolding call_stored refusal_stored refusal
  call_none k h =
      rw (settled k (refusal_stored tb c k))
      (first-elim (λ k. NoneOf349 k.refusal) accepted (λ k. k.applies)
      (checks_in tb (sound_stored tb c) (own_checks tb (view c) k))
      (λ e. under 1 (omega arith), λ e. (λ e. under 2 (omega arith), λ e. (λ e. above 20 (omega arith), λ e. h))))

  module _ (b w : ℕ) (below : b < size_of tb) (none : has_other_bit w ≡ false) where
    -- a start: 3 and 4 do not apply
    start_fine : Fine (start_checks tb (view c) b w)
    start_fine = (
      λ e. contradiction e (ap not (lt-ltb b (size_of tb) below)),
      λ e. (
        λ e. contradiction e none,
        λ e. (
          λ e. above 21 (omega arith),
          λ e. (λ e. above 23 (omega arith), λ e. (λ e. above 24 (omega arith), λ e. under 0 (omega arith))),
        ),
      ),
    )

    abbrev Drawn : Request → Type 0
    Drawn q = NoneOf349 (reply_stored tb c q).answer.refusal

    -- what a record of a known kind asks for
    request-none : (kind : ℕ) → 1 ≤ kind → kind ≤ 5 → Drawn (request_of kind b w)
    unfolding request_of own_checks
    request-none kind low high =
        if-elim Drawn (eqb kind 1) _ _
        (λ e.
        call_none (launch b) (λ e. above 22 (omega arith), λ e. (λ e. above 30 (omega arith), λ e. under 0 (omega arith)))) (λ e₁.
        if-elim Drawn (eqb kind 2) _ _ (λ e. call_none (start b w) start_fine) (λ e₂.
        if-elim Drawn (eqb kind 3) _ _ (λ e. call_none (finishing_start b w) start_fine) (λ e₃.
        if-elim Drawn (eqb kind 4) _ _ (λ e. call_none back (λ e. above 21 (omega arith), λ e. under 0 (omega arith))) (λ e₄.
        if-elim Drawn (eqb kind 5) _ _ (λ e. call_none look (under 0 (omega arith))) (λ e₅.
        let n₁ = eqb-false kind 1 e₁ in
        let n₂ = eqb-false kind 2 e₂ in
        let n₃ = eqb-false kind 3 e₃ in
        let n₄ = eqb-false kind 4 e₄ in
        let n₅ = eqb-false kind 5 e₅ in
        absurd (omega arith))))))

  -- ---- a record

  played : (k b w : ℕ) (rest : List ℕ) → played_stored tb c (bytes_of_record k b w ++ rest) ≡ reply_stored tb c (request_of k b w)
  unfolding played_stored records_in
  played k b w rest = rw (word_back w)

  pub record-none : (s : ℕ) (rest : List ℕ) → 1 ≤ size_of tb
      → NoneOf349 (played_stored tb c (record_from (size_of tb) s ++ rest)).answer.refusal
  unfolding record_from
  record-none s rest h =
      rw (played (step s % 5 + 1) (step (step s) % size_of tb) (seven_of (next s)) rest)
      (request-none (step (step s) % size_of tb) (seven_of (next s)) (mod-lt (step (step s)) h) (seven-alone (next s))
      (step s % 5 + 1) (omega arith) (omega arith))
