-- For every list of calls there are bytes that are read as a list with the same session after it and the same answers along
-- it. The length of an image is a word of 32 bits; a longer image is refused as an empty one is, since L has 16 bits.
use Prim.Native.Nat.{ℕ, ◌+◌, ◌-◌, ◌≤◌}
use mathlib.Core.Path.{◌≡◌, refl, ◌∙◌, ap}
use mathlib.Core.Bool.{Bool, true, false, not, ◌&&◌}
use mathlib.Core.List.{List, [], ◌∷◌, map}
use native.Mathlib.Omega.{arith}
use lib.Dec.{ltb, eqb}
use lib.ListN.{length, get_or, length-drop}
use borrow.Author.Tests.{ltb-true, ltb-false}
use Rattle.model.specs.declared.Answer.{Answer}
use Rattle.std.specs.Prelude.{if◌then◌else◌}
use Rattle.model.specs.Lists.{All}
use Rattle.model.specs.Refusals.{Check, check, refusal}
use Rattle.model.specs.Table.{table_shaped, table_filled}
use Rattle.model.specs.Session.{State, sound, is_edition}
use Rattle.model.specs.Answers.{Outcome, outcome, settle}
use Rattle.model.specs.Image.{trailer_in, edition_in, length_in, image_shaped}
use Rattle.model.specs.Calls.{Call, launch, start, finishing_start, back, look, restore, own_checks, refusal_of, call}
use Rattle.model.specs.Histories.{after, answers, IsByte, word_count, IsWord, Passable, by_rules}
use Rattle.model.proofs.Logic.{and-decides, leb-decides, eqb-decides, self-decides, refuted, if-elim, All-at, All-map}
use Rattle.model.proofs.ListLaws.{All-drop, All-to-map}
use Rattle.recording.specs.CallBytes.{calls_in}
use Rattle.recording.proofs.Writing.{written_as, ImageFits, read_back, written-bytes}

-- ---- images that are too long

long-unshaped : (bytes : List ℕ) → All IsByte bytes → word_count ≤ length bytes → image_shaped bytes ≡ false
unfolding image_shaped
long-unshaped bytes h long =
    let end : length (trailer_in bytes) ≡ 6 = omega (arith, length-drop (length bytes - 6) bytes) in
    let byte : (i : ℕ) → i ≤ 1 → IsByte (get_or (trailer_in bytes) i 0) =
    λ i l. All-at IsByte (trailer_in bytes) i 0 (omega arith) (All-drop IsByte (length bytes - 6) bytes h) in
    let two = is_edition (edition_in bytes) && eqb (get_or (trailer_in bytes) 5 0) 0x42 in
    refuted (image_shaped bytes)
    (and-decides (leb-decides 6 (length bytes)) (and-decides (self-decides two) (eqb-decides (length bytes) (length_in bytes + 6))))
    (λ d. let e : length bytes ≡ length_in bytes + 6 = d.1.1 in omega (arith, byte 0 (omega arith), byte 1 (omega arith)))

empty-unshaped : image_shaped [] ≡ false
unfolding image_shaped
empty-unshaped = refl

-- what 5 refuses is refused whatever else the image holds
module _ (tb : List ℕ) (s : State ℕ) where
  refused-5 : (a b c : Bool) (own own' : List Check) (t t' : State ℕ) (x x' : Answer)
      → settle outcome (refusal (check 1 a ∷ check 2 b ∷ check 20 c ∷ check 5 true ∷ own)) s t x
      ≡ settle outcome (refusal (check 1 a ∷ check 2 b ∷ check 20 c ∷ check 5 true ∷ own')) s t' x'
  unfolding refusal
  refused-5 true b c own own' t t' x x' = refl
  refused-5 false true c own own' t t' x x' = refl
  refused-5 false false true own own' t t' x x' = refl
  refused-5 false false false own own' t t' x x' = refl

  unshaped-alike : (bytes bytes' : List ℕ) → image_shaped bytes ≡ false → image_shaped bytes' ≡ false
      → call tb s (restore bytes) ≡ call tb s (restore bytes')
  unfolding call refusal_of own_checks
  unshaped-alike bytes bytes' e e' =
      rw (e, e') (refused-5 (not (table_shaped tb)) (not (table_filled tb)) (not (sound tb s)) _ _ _ _ _ _)

-- ---- every list has bytes

-- the same call with an image whose length is a word
abbrev shortened : Call → Call
shortened (launch e) = launch e
shortened (start b w) = start b w
shortened (finishing_start b w) = finishing_start b w
shortened back = back
shortened look = look
shortened (restore bytes) = restore (if ltb (length bytes) word_count then bytes else [])

shortened-fits : (c : Call) → Passable c → Passable (shortened c) × ImageFits (shortened c)
shortened-fits (launch e) h = (h, tt)
shortened-fits (start b w) h = (h, tt)
shortened-fits (finishing_start b w) h = (h, tt)
shortened-fits back h = (tt, tt)
shortened-fits look h = (tt, tt)
shortened-fits (restore bytes) h =
    if-elim (λ l. All IsByte l × IsWord (length l)) (ltb (length bytes) word_count) bytes []
    (λ e. (h, ltb-true (length bytes) word_count e)) (λ e. (tt, omega arith))

shortened-alike : (tb : List ℕ) (s : State ℕ) (c : Call) → Passable c → call tb s (shortened c) ≡ call tb s c
shortened-alike tb s (launch e) h = refl
shortened-alike tb s (start b w) h = refl
shortened-alike tb s (finishing_start b w) h = refl
shortened-alike tb s back h = refl
shortened-alike tb s look h = refl
shortened-alike tb s (restore bytes) h =
    if-elim (λ l. call tb s (restore l) ≡ call tb s (restore bytes)) (ltb (length bytes) word_count) bytes [] (λ e. refl)
    (λ e. unshaped-alike tb s [] bytes empty-unshaped (long-unshaped bytes h (ltb-false (length bytes) word_count e)))

-- the same session after both lists, and the same answers along them, from any session under any table
abbrev pub ListAlike : List Call → List Call → Type 0
ListAlike cs ds = (tb : List ℕ) (s : State ℕ) → (after (by_rules tb) s cs ≡ after (by_rules tb) s ds) × (answers (by_rules tb) s cs ≡ answers (by_rules tb) s ds)

shortened-list : (cs : List Call) → All Passable cs → ListAlike (map shortened cs) cs
unfolding after answers
shortened-list [] h tb s = (refl, refl)
shortened-list (c ∷ cs) h tb s =
    let e = shortened-alike tb s c h.0 in
    let k = shortened-list cs h.1 tb (call tb s c).session in (
      ap (λ (o : Outcome). after (by_rules tb) o.session (map shortened cs)) e ∙ k.0,
      ap (λ (o : Outcome). o.answer ∷ answers (by_rules tb) o.session (map shortened cs)) e ∙ ap (λ (l : List Answer). (call tb s c).answer ∷ l) k.1,
    )

-- bytes that are read as such a list
pub every-list : (cs : List Call) → All Passable cs → (bytes : List ℕ) × All IsByte bytes × ListAlike (calls_in bytes) cs
every-list cs h =
    let ds = map shortened cs in (
      written_as ds,
      written-bytes ds (All-to-map shortened (λ c. Passable c × ImageFits c) cs (All-map shortened-fits cs h)),
      rw (read_back ds) (shortened-list cs h),
    )
