-- Every call keeps a session sound, and so does every list of calls.
use Prim.Native.Nat.{ℕ, zero, suc, ◌<◌, zero-le}
use mathlib.Core.Path.{◌≡◌, refl, ap}
use mathlib.Core.Bool.{true, false, not}
use mathlib.Core.List.{List, []}
use native.Mathlib.Omega.{arith}
use borrow.Author.Tests.{ltb-true, not-false}
use Rattle.model.specs.Lists.{is_empty}
use Rattle.model.specs.Refusals.{refusal}
use Rattle.model.specs.Table.{size_of, main_screen, table_shaped, table_filled, table_refusal}
use Rattle.model.specs.Session.{State, fresh, is_edition, sound}
use Rattle.model.specs.Answers.{outcome, settle}
use Rattle.model.specs.Image.{image_shaped, image_readable, image_checks, session_in}
use Rattle.model.specs.Calls.{Call, launch, start, finishing_start, back, look, restore, edition_named, launched, launch_checks, own_checks, done, answer_to, refusal_of, call}
use Rattle.model.specs.Histories.{after, by_rules}
use Rattle.model.proofs.Logic.{and_left}
use Rattle.model.proofs.RefusalLaws.{refusal-skip, checks-own}
use Rattle.model.proofs.Sound.{Sound, sound-decides}
use Rattle.model.proofs.Close.{no_main, no-mark, backed-sound}
use Rattle.model.proofs.Effects.{new-task-sound}
use Rattle.model.proofs.Finish.{started-sound}
use Rattle.model.proofs.MachineLaws.{after_kept}

-- ---- what is known of a good table and of an accepted image

pub main-known : (tb : List ℕ) → table_refusal tb ≡ 0 → main_screen tb < size_of tb
unfolding table_refusal table_filled
main-known tb ok =
    let c₁ = refusal-skip 0 (not (table_shaped tb)) _ ok in
    let c₂ = refusal-skip 1 (not (table_filled tb)) _ c₁.1 in
    ltb-true (main_screen tb) (size_of tb) (and_left _ _ (not-false _ c₂.0))

-- what a restore accepts reads as a sound session
pub restored-sound : (tb bytes : List ℕ) → refusal (image_checks tb bytes) ≡ 0 → sound tb (session_in bytes) ≡ true
restored-sound tb bytes e =
    let c₅ = refusal-skip 4 (not (image_shaped bytes)) _ e in
    let c₆ = refusal-skip 5 (not (image_readable bytes)) _ c₅.1 in
    let c₇ = refusal-skip 6 (not (sound tb (session_in bytes))) _ c₆.1 in
    not-false _ c₇.0

-- ---- settling

-- on a sound session under a good table a call has its own checks only
pub refusal-own : (tb : List ℕ) → table_refusal tb ≡ 0 → (s : State ℕ) → Sound tb s → (c : Call)
    → refusal_of tb s c ≡ refusal (own_checks tb s c)
unfolding refusal_of
refusal-own tb ok s h c = rw ((sound-decides tb s).shows h) (checks-own tb (own_checks tb s c) ok)

pub settled : (tb : List ℕ) → table_refusal tb ≡ 0 → (s : State ℕ) → Sound tb s → (c : Call)
    → call tb s c ≡ settle outcome (refusal (own_checks tb s c)) s (done tb s c) (answer_to tb s c)
unfolding call
settled tb ok s h c = ap (λ (k : ℕ). settle outcome k s (done tb s c) (answer_to tb s c)) (refusal-own tb ok s h c)

-- ---- soundness

pub fresh-sound : (tb : List ℕ) → Sound tb fresh
unfolding is_edition
fresh-sound tb = record { few = zero-le; each = tt; pairs = tt; place = no_main tb []; edition = record { known = refl; kept = refl }; no_history = no-mark 0 }

-- of an edition that a launch accepts
pub launched-sound : (tb : List ℕ) → table_refusal tb ≡ 0 → (e : ℕ) → is_edition (edition_named e) ≡ true → Sound tb (launched tb e)
unfolding launched
launched-sound tb ok e known =
    record {
      few = omega arith;
      each = (new-task-sound tb (main_screen tb) (main-known tb ok), tt);
      pairs = (tt, tt);
      place = record { most = omega arith; root = λ l. refl };
      edition = record { known = known; kept = refl };
      no_history = no-mark 1;
    }

-- what a launch that is not refused is given
pub launch-edition : (s : State ℕ) (e : ℕ) → refusal (launch_checks s e) ≡ 0 → is_edition (edition_named e) ≡ true
launch-edition s e r =
    let c₂₂ = refusal-skip 21 (not (is_empty s.tasks)) _ r in
    not-false _ (refusal-skip 29 (not (is_edition (edition_named e))) [] c₂₂.1).0

module _ (tb : List ℕ) (ok : table_refusal tb ≡ 0) where
  pub done-sound : (s : State ℕ) → Sound tb s → (c : Call) → refusal (own_checks tb s c) ≡ 0 → Sound tb (done tb s c)
  unfolding done own_checks
  done-sound s h (launch v) e = launched-sound tb ok v (launch-edition s v e)
  done-sound s h (start b w) e = started-sound tb false s b w h e
  done-sound s h (finishing_start b w) e = started-sound tb true s b w h e
  done-sound s h back e = backed-sound tb s h
  done-sound s h look e = h
  done-sound s h (restore bytes) e = (sound-decides tb (session_in bytes)).holds (restored-sound tb bytes e)

  -- every call keeps a session sound, refused or not
  pub call-sound : (s : State ℕ) → Sound tb s → (c : Call) → Sound tb (call tb s c).session
  call-sound s h c = rw (settled tb ok s h c) (go (refusal (own_checks tb s c)) refl)
    where
      go : (n : ℕ) → refusal (own_checks tb s c) ≡ n → Sound tb (settle outcome n s (done tb s c) (answer_to tb s c)).session
      go zero e = done-sound s h c e
      go (suc k) e = h

  -- and every list of calls does
  pub after-sound : (s : State ℕ) → Sound tb s → (cs : List Call) → Sound tb (after (by_rules tb) s cs)
  after-sound = after_kept (by_rules tb) (Sound tb) call-sound
