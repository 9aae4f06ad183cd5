-- The set of request 12: its screens are exactly those that some filling brings to the front; knowing more bits adds none, and the
-- No-History bit changes nothing. All that the contract says, by the refusal.
use Prim.Native.Nat.{ℕ, zero, suc, ◌≤◌, ◌<◌, ◌^◌}
use mathlib.Core.Path.{◌≡◌, refl, sym, ◌∙◌, ap}
use mathlib.Core.Logic.{◌⊎◌, inl, inr}
use mathlib.Core.Bool.{Bool, true, false, not, ◌&&◌}
use mathlib.Core.List.{List, [], ◌∷◌}
use native.Mathlib.Omega.{arith}
use lib.Dec.{eqb, ltb}
use lib.Bits.{bit_and}
use lib.Pow.{pow_pos}
use borrow.Author.Tests.{eqb-true, eqb-false, eq-eqb, ne_eqb, lt-ltb, le-ltb, not-false}
use Rattle.model.specs.Refusals.{check, refusal}
use Rattle.model.specs.Table.{size_of as screens_of}
use Rattle.model.specs.Session.{count}
use Rattle.model.specs.Flags.{has_other_bit}
use Rattle.model.specs.Calls.{checks_in}
use Rattle.model.specs.NoHistory.{without_no_history}
use Rattle.model.proofs.Logic.{if-elim}
use Rattle.model.proofs.RefusalLaws.{refusal-skip, refusal-applies, refusal-passes, refusal-append-refused, checks-own}
use Rattle.session.specs.declared.Session.{Session}
use Rattle.session.specs.Stored.{view, sound_stored, Ready}
use Rattle.checks.specs.Shared.{shared_refusal}
use Rattle.checks.proofs.SharedLaws.{checks-ready}
use Rattle.fronts.specs.declared.FrontSet.{FrontSet}
use Rattle.fronts.specs.Sets.{IsIn, Within}
use Rattle.fronts.specs.Fronts.{is_known, seven_words, word_at, start_of, Brings, CouldBe, SetExactly, with_front, fronts_among, front_set, known_checks, fronts_refusal, refused_set, settle_set, fronts_stored, KnowingMore, AnyNoHistory}
use Rattle.fronts.proofs.SetLaws.{Shows, digit-zero, with-shown, with-grows, with-only, with_none, with-fits, size-within, sets_same}
use Rattle.fronts.proofs.Words.{word-seven, seven-index, fills-less, with_bit, six-known, six-filling, bit-filling, bit-same}
use Rattle.fronts.proofs.Starting.{shows-brings, brings-shows, shows-known, empty-refused, brings-six}

module _ (tb : List ℕ) (c : Session) (b : ℕ) where
  -- ---- the first n words

  module _ (mask value : ℕ) where
    -- one of the first n words has the known values and brings k to the front
    record Among (k n : ℕ) : Type 0 where
      index : ℕ
      below : index < n
      known : bit_and (word_at index) mask ≡ value
      brings : Brings tb c b (word_at index) k

    further : (k n : ℕ) → Among k n → Among k (suc n)
    further k n a = record { index = a.index; below = omega (arith, a.below); known = a.known; brings = a.brings }

    among : (k n : ℕ) → IsIn k (fronts_among tb c b mask value n) → Among k n
    unfolding fronts_among with_front
    among k zero = λ e. absurd (omega (arith, digit-zero k, e))
    among k (suc n) =
        let before = fronts_among tb c b mask value n in
        if-elim (λ (x : ℕ). IsIn k x → Among k (suc n)) (eqb (bit_and (word_at n) mask) value) _ before
        (λ t e. go (eqb-true _ value t) (with-only before (start_of tb c b (word_at n)).answer k e) (λ h. further k n (among k n h)))
        (λ _ e. further k n (among k n e))
      where
        go : bit_and (word_at n) mask ≡ value → IsIn k (fronts_among tb c b mask value n) ⊎ Shows (start_of tb c b (word_at n)).answer k
            → (IsIn k (fronts_among tb c b mask value n) → Among k (suc n)) → Among k (suc n)
        go t (inl e) more = more e
        go t (inr h) more = record { index = n; below = omega arith; known = t; brings = shows-brings tb c b (word_at n) k h }

    grows : (k n : ℕ) → IsIn k (fronts_among tb c b mask value n) → IsIn k (fronts_among tb c b mask value (suc n))
    unfolding fronts_among with_front
    grows k n e =
        let before = fronts_among tb c b mask value n in
        if-elim (IsIn k) (eqb (bit_and (word_at n) mask) value) _ before
        (λ _. with-grows before (start_of tb c b (word_at n)).answer k e) (λ _. e)

    among_in : (k n : ℕ) → Among k n → IsIn k (fronts_among tb c b mask value n)
    unfolding fronts_among with_front
    among_in k zero a = absurd (omega (arith, a.below))
    among_in k (suc n) a = go (eqb a.index n) refl (λ l. grows k n (among_in k n (record { index = a.index; below = l; known = a.known; brings = a.brings })))
      where
        last : (i : ℕ) → i ≡ n → bit_and (word_at i) mask ≡ value → Brings tb c b (word_at i) k → IsIn k (fronts_among tb c b mask value (suc n))
        last i e q h =
            let q' = rw e at q in
            let h' = rw e at h in
            rw (eq-eqb (bit_and (word_at n) mask) value q')
            (with-shown (fronts_among tb c b mask value n) (start_of tb c b (word_at n)).answer k (brings-shows tb c b (word_at n) k h'))

        go : (t : Bool) → eqb a.index n ≡ t → (a.index < n → IsIn k (fronts_among tb c b mask value (suc n))) → IsIn k (fronts_among tb c b mask value (suc n))
        go true e more = last a.index (eqb-true _ n e) a.known a.brings
        go false e more = more (omega (arith, a.below, eqb-false _ n e))

    -- one word more, which has the known values or does not
    module _ (n : ℕ) {set f next : ℕ} (before : set ≡ fronts_among tb c b mask value n) (word : f ≡ word_at n) where
      pub among-filling : bit_and f mask ≡ value → next ≡ with_front tb c b set f → next ≡ fronts_among tb c b mask value (suc n)
      unfolding fronts_among
      among-filling known e = e ∙ rw (before, word) (sym (rw (eq-eqb (bit_and (word_at n) mask) value (ap (λ (x : ℕ). bit_and x mask) (sym word) ∙ known))))

      pub among-other : (bit_and f mask ≡ value → ⊥) → next ≡ set → next ≡ fronts_among tb c b mask value (suc n)
      unfolding fronts_among
      among-other other e =
          e ∙ before ∙ sym (rw (ne_eqb (bit_and (word_at n) mask) value (λ q. other (ap (λ (x : ℕ). bit_and x mask) word ∙ q))))

    -- ---- the set, exactly

    pub set-exactly : SetExactly tb c b mask value (front_set tb c b mask value)
    set-exactly k = (λ e. could (among k seven_words e), λ h. among_in k seven_words (indexed h))
      where
        could : Among k seven_words → CouldBe tb c b mask value k
        could a =
            record {
              word = word_at a.index;
              filling = record { seven = word-seven a.index a.below; known = a.known };
              brings = a.brings;
            }

        indexed : CouldBe tb c b mask value k → Among k seven_words
        indexed h =
            let x = seven-index h.word h.filling.seven in
            record { index = x.index; below = x.below; known = rw x.word h.filling.known; brings = rw x.word h.brings }

    -- 64 bits hold it
    module _ (ok : Ready tb c) where
      among-fits : (n : ℕ) → fronts_among tb c b mask value n < 2 ^ 64
      unfolding fronts_among with_front
      among-fits zero = pow_pos 64
      among-fits (suc n) =
          let before = fronts_among tb c b mask value n in
          if-elim (λ (x : ℕ). x < 2 ^ 64) (eqb (bit_and (word_at n) mask) value) _ before
          (λ _. with-fits before (start_of tb c b (word_at n)).answer (among-fits n) (shows-known tb c b (word_at n) ok)) (λ _. among-fits n)

      -- "An empty session gives the empty set"
      among-empty : count (view c) ≡ 0 → (n : ℕ) → fronts_among tb c b mask value n ≡ 0
      unfolding fronts_among with_front
      among-empty none zero = refl
      among-empty none (suc n) =
          let before = fronts_among tb c b mask value n in
          if-elim (λ (x : ℕ). x ≡ 0) (eqb (bit_and (word_at n) mask) value) _ before
          (λ _. with_none before (start_of tb c b (word_at n)).answer (empty-refused tb c b (word_at n) ok none) ∙ among-empty none n)
          (λ _. among-empty none n)

  -- ---- two sets

  within_by : (mask value mask' value' : ℕ) → ((k : ℕ) → CouldBe tb c b mask value k → CouldBe tb c b mask' value' k)
      → Within (front_set tb c b mask value) (front_set tb c b mask' value')
  within_by mask value mask' value' h k e = (set-exactly mask' value' k).1 (h k ((set-exactly mask value k).0 e))

  -- "Knowing more bits never adds a screen."
  more_within : (mask value mask' value' : ℕ) → bit_and mask' mask ≡ mask → bit_and value' mask ≡ value
      → Within (front_set tb c b mask' value') (front_set tb c b mask value)
  more_within mask value mask' value' m v =
      within_by mask' value' mask value
      (λ k h. record { word = h.word; filling = fills-less mask value mask' value' h.word m v h.filling; brings = h.brings })

  -- the No-History bit
  module _ (ok : Ready tb c) (mask value : ℕ) (known : is_known mask value ≡ true) where
    less-could : (k : ℕ) → CouldBe tb c b mask value k → CouldBe tb c b (without_no_history mask) (without_no_history value) k
    less-could k h = record { word = h.word; filling = six-filling mask value known h.word h.filling; brings = h.brings }

    could-less : (k : ℕ) → CouldBe tb c b (without_no_history mask) (without_no_history value) k → CouldBe tb c b mask value k
    could-less k h =
        let f = h.word in
        record {
          word = with_bit value f;
          filling = bit-filling mask value known f h.filling;
          brings = (brings-six tb c b (with_bit value f) k).0 (rw (bit-same mask value known f h.filling) ((brings-six tb c b f k).1 h.brings));
        }

    set-six : front_set tb c b mask value ≡ front_set tb c b (without_no_history mask) (without_no_history value)
    set-six =
        sets_same 64 (front_set tb c b mask value) (front_set tb c b (without_no_history mask) (without_no_history value))
        (among-fits mask value ok seven_words) (among-fits (without_no_history mask) (without_no_history value) ok seven_words)
        (within_by mask value (without_no_history mask) (without_no_history value) less-could)
        (within_by (without_no_history mask) (without_no_history value) mask value could-less)

-- ---- the checks

-- what is known where none applies
pub record Passes (tb : List ℕ) (c : Session) (b mask value : ℕ) : Type 0 where
  pub ready : Ready tb c
  pub screen : not (ltb b (screens_of tb)) ≡ false
  pub known : is_known mask value ≡ true

module _ (tb : List ℕ) (b mask value : ℕ) where
  mask-other : has_other_bit mask ≡ true → is_known mask value ≡ false
  unfolding is_known
  mask-other e = rw e

  value-other : (bit_and value mask ≡ value → ⊥) → is_known mask value ≡ false
  unfolding is_known
  value-other h = rw (ne_eqb (bit_and value mask) value h) (none (not (has_other_bit mask)))
    where
      none : (x : Bool) → (x && false) ≡ false
      none true = refl
      none false = refl

  both-known : has_other_bit mask ≡ false → bit_and value mask ≡ value → is_known mask value ≡ true
  unfolding is_known
  both-known e f = rw (e, eq-eqb (bit_and value mask) value f)

  pub known-3 : screens_of tb ≤ b → refusal (known_checks tb b mask value) ≡ 3
  known-3 l = refusal-applies 3 _ _ (ap not (le-ltb b (screens_of tb) l))

  known-own : b < screens_of tb → refusal (known_checks tb b mask value) ≡ refusal (check 35 (not (is_known mask value)) ∷ [])
  known-own l = refusal-passes 3 _ _ (ap not (lt-ltb b (screens_of tb) l))

  pub known-35-mask : b < screens_of tb → has_other_bit mask ≡ true → refusal (known_checks tb b mask value) ≡ 35
  known-35-mask l e = known-own l ∙ refusal-applies 35 _ _ (ap not (mask-other e))

  pub known-35-value : b < screens_of tb → (bit_and value mask ≡ value → ⊥) → refusal (known_checks tb b mask value) ≡ 35
  known-35-value l h = known-own l ∙ refusal-applies 35 _ _ (ap not (value-other h))

  known-passed : not (ltb b (screens_of tb)) ≡ false → is_known mask value ≡ true → refusal (known_checks tb b mask value) ≡ 0
  unfolding refusal
  known-passed e f = rw (e, f)

  pub known-0 : b < screens_of tb → has_other_bit mask ≡ false → bit_and value mask ≡ value → refusal (known_checks tb b mask value) ≡ 0
  known-0 l e f = known-passed (ap not (lt-ltb b (screens_of tb) l)) (both-known e f)

module _ (tb : List ℕ) (c : Session) (b mask value : ℕ) where
  -- refused by one of the shared checks, or by its own
  pub refusal-shared : (n : ℕ) → shared_refusal tb c ≡ n → (n ≡ 0 → ⊥) → fronts_refusal tb c b mask value ≡ n
  unfolding fronts_refusal shared_refusal
  refusal-shared zero e z = absurd (z refl)
  refusal-shared (suc n) e z = refusal-append-refused n (checks_in tb (sound_stored tb c) []) (known_checks tb b mask value) e

  pub refusal-own : Ready tb c → fronts_refusal tb c b mask value ≡ refusal (known_checks tb b mask value)
  unfolding fronts_refusal
  refusal-own ok = rw ok.sound (checks-own tb (known_checks tb b mask value) ok.good)

  passes : fronts_refusal tb c b mask value ≡ 0 → Passes tb c b mask value
  unfolding fronts_refusal
  passes e =
      let ok = checks-ready tb c (known_checks tb b mask value) e in
      let c₃ = refusal-skip 2 (not (ltb b (screens_of tb))) _ (sym (refusal-own ok) ∙ e) in
      let c₃₅ = refusal-skip 34 (not (is_known mask value)) _ c₃.1 in
      record { ready = ok; screen = c₃.0; known = not-false _ c₃₅.0 }

  -- ---- what the contract says

  pub refused-gives : (n : ℕ) → fronts_refusal tb c b mask value ≡ n → (n ≡ 0 → ⊥) → refused_set n ≡ fronts_stored tb c b mask value
  unfolding fronts_stored
  refused-gives zero e z = absurd (z refl)
  refused-gives (suc n) e z = rw e

  pub set_gives : fronts_refusal tb c b mask value ≡ 0 → settle_set 0 (front_set tb c b mask value) ≡ fronts_stored tb c b mask value
  unfolding fronts_stored
  set_gives e = rw e

  stored-passes : (fronts_stored tb c b mask value).refusal ≡ 0 → fronts_refusal tb c b mask value ≡ 0
  unfolding fronts_stored
  stored-passes = go (fronts_refusal tb c b mask value)
    where
      go : (n : ℕ) → (settle_set n (front_set tb c b mask value)).refusal ≡ 0 → n ≡ 0
      go zero e = refl
      go (suc n) e = e

-- all that the contract says of the set r that is told
abbrev pub Tells : List ℕ → Session → ℕ → ℕ → ℕ → FrontSet → Type 0
Tells tb c b mask value r =
    (r ≡ fronts_stored tb c b mask value)
    × ((r.refusal ≡ 0 → SetExactly tb c b mask value r.set)
    × ((c.n ≡ 0 → r.set ≡ 0)
    × ((r.refusal ≡ 0 → KnowingMore tb c b mask value r) × (r.refusal ≡ 0 → AnyNoHistory tb c b mask value r))))

module _ (tb : List ℕ) (c : Session) (b mask value : ℕ) where
  -- where it is not refused
  module _ (e : fronts_refusal tb c b mask value ≡ 0) where
    abbrev set : ℕ
    set = front_set tb c b mask value

    no-task : c.n ≡ 0 → count (view c) ≡ 0
    unfolding view
    no-task none = rw none

    more : KnowingMore tb c b mask value (settle_set 0 set)
    more mask' value' m v ok =
        let within = more_within tb c b mask value mask' value' m v in
        rw (← set_gives tb c b mask' value' (stored-passes tb c b mask' value' ok)) (within, size-within 64 _ _ within)

    six : AnyNoHistory tb c b mask value (settle_set 0 set)
    six =
        let p = passes tb c b mask value e in
        let q = refusal-own tb c b (without_no_history mask) (without_no_history value) p.ready
        ∙ known-passed tb b (without_no_history mask) (without_no_history value) p.screen (six-known mask value p.known) in
        ap (settle_set 0) (set-six tb c b p.ready mask value p.known) ∙ set_gives tb c b (without_no_history mask) (without_no_history value) q

    set_tells : Tells tb c b mask value (settle_set 0 set)
    set_tells =
        let p = passes tb c b mask value e in (
          set_gives tb c b mask value e,
          (λ _. set-exactly tb c b mask value, (λ none. among-empty tb c b mask value p.ready (no-task none) seven_words, (λ _. more, λ _. six))),
        )

  pub set_told : fronts_refusal tb c b mask value ≡ 0 → {r : FrontSet} → r ≡ settle_set 0 (front_set tb c b mask value) → Tells tb c b mask value r
  set_told e {r} q = rw q (set_tells e)

  pub refused-told : {n : ℕ} → fronts_refusal tb c b mask value ≡ n → (n ≡ 0 → ⊥) → {r : FrontSet} → r ≡ refused_set n → Tells tb c b mask value r
  refused-told {n} e z {r} q =
      rw q (refused-gives tb c b mask value n e z, (λ f. absurd (z f), (λ _. refl, (λ f. absurd (z f), λ f. absurd (z f)))))
