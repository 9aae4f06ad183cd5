-- Editions: how each seeks a task, that a session keeps its edition until it is empty, and that an image tells it.
use Prim.Native.Nat.{ℕ, zero, suc}
use mathlib.Core.Path.{◌≡◌, refl, sym, ◌∙◌, ap}
use mathlib.Core.Bool.{Bool, true, false}
use mathlib.Core.List.{List}
use native.Mathlib.Omega.{arith}
use lib.Dec.{eqb}
use Rattle.model.specs.declared.Choice.{Choice}
use Rattle.model.specs.declared.Effect.{Effect}
use Rattle.model.specs.declared.Flags.{Flags}
use Rattle.model.specs.declared.Found.{Found}
use Rattle.model.specs.declared.Group.{Group}
use Rattle.model.specs.declared.Position.{Position}
use Rattle.model.specs.declared.Rule.{Rule}
use Rattle.model.specs.Lists.{is_empty, first}
use Rattle.model.specs.Refusals.{refusal}
use Rattle.model.specs.Table.{is_single_task, is_single_instance, table_refusal}
use Rattle.model.specs.Session.{State, count, edition_kept, sound}
use Rattle.model.specs.Flags.{flags_of}
use Rattle.model.specs.Search.{is_found_by_root, place_of, seek_root, seeks_by_root, seek}
use Rattle.model.specs.Rules.{number_of, rules_of, is_apart, group_of, sought_by, fits, choose_in, choose}
use Rattle.model.specs.Effects.{move, change_front, put_new, carry_out, task_left, close}
use Rattle.model.specs.Answers.{outcome, settle}
use Rattle.model.specs.Image.{image}
use Rattle.model.specs.Calls.{Call, launch, start, finishing_start, back, look, restore, chosen, effect_in, caller_closes, started_with, started, backed, start_checks, own_checks, done, answer_to, call}
use Rattle.model.proofs.Marks.{close_at}
use Rattle.model.specs.Reasons.{how_found, reason_of}
use Rattle.model.specs.Editions.{EditionSeeks, EditionKept, NamesNoEdition}
use Rattle.model.proofs.Logic.{if-elim, first-elim, never, contradiction, and_left}
use Rattle.model.proofs.SearchLaws.{found-cases, Finds, seek-exact}
use Rattle.model.proofs.Sound.{Sound, sound-decides}
use Rattle.model.proofs.Close.{close-emptied, close-kept}
use Rattle.model.proofs.Start.{started_by, start-accepted}
use Rattle.model.proofs.Finish.{mark_of, finished-by, with-sound}
use Rattle.model.proofs.Keeps.{settled, call-sound}
use Rattle.model.proofs.ImageLaws.{image_injective}
use Rattle.std.specs.Prelude.{Option, None, Some}

-- ---- how a task is sought

module _ (tb : List ℕ) (s : State ℕ) (b : ℕ) where
  abbrev Rooted : Type 0
  Rooted = seeks_by_root tb s.edition b ≡ true

  abbrev Seeks : Rule → Option Found → Type 0
  Seeks r t = EditionSeeks tb s b (reason_of (record { rule = r; found = t }))

  -- what is found by root was sought by root
  by-root : (t : Option Found) → Finds tb s.edition b s.tasks t → how_found t ≡ 1 → Rooted
  by-root =
      found-cases (λ t. Finds tb s.edition b s.tasks t → how_found t ≡ 1 → Rooted) (λ h e. absurd (omega arith)) (λ p h e. h.0)
      (λ p h e. absurd (omega arith))

  is-by-root : (t : Option Found) → is_found_by_root t ≡ true → how_found t ≡ 1
  is-by-root None e = never (sym e)
  is-by-root (Some f) e = rw e

  -- "except for single-instance screens, search is by affinity only"
  six-seeks : is_single_instance tb b ≡ false → is_single_task tb b ≡ false → s.edition ≡ 6 → seeks_by_root tb s.edition b ≡ false
  unfolding seeks_by_root
  six-seeks i t e = rw (i, t, e)

  module _ (f : Flags) where
    abbrev rule_in : Group → Option Found → Rule
    rule_in g t = first Rule.R18 (fits tb s b f t) (rules_of g)

    instance-seeks : (t : Option Found) → is_single_instance tb b ≡ true → Seeks (rule_in Group.Instance t) t
    unfolding rules_of fits seeks_by_root
    instance-seeks t i =
        record {
          by_root = λ e. rw i;
          never15 = λ _.
              first-elim (λ r. number_of r ≡ 15 → ⊥) Rule.R18 (fits tb s b f t) (rules_of Group.Instance)
              (λ _ e. omega arith, λ _. (λ _ e. omega arith, λ _ e. omega arith));
        }

    task-seeks : (t : Option Found) → Finds tb s.edition b s.tasks t → Seeks (rule_in Group.Task t) t
    unfolding rules_of fits
    task-seeks t h =
        record {
          by_root = by-root t h;
          never15 = λ _.
              first-elim (λ r. number_of r ≡ 15 → ⊥) Rule.R18 (fits tb s b f t) (rules_of Group.Task)
              (λ _ e. omega arith, λ _. (λ _ e. omega arith, λ _. (λ _ e. omega arith, λ _. (λ _ e. omega arith, λ _ e. omega arith))));
        }

    near-seeks : Seeks (rule_in Group.NotApart None) None
    unfolding rules_of fits
    near-seeks =
        record {
          by_root = λ e. absurd (omega arith);
          never15 = λ _.
              first-elim (λ r. number_of r ≡ 15 → ⊥) Rule.R18 (fits tb s b f None) (rules_of Group.NotApart)
              (λ _ e. omega arith, λ _. (λ _ e. omega arith, λ _. (λ _ e. omega arith, λ _. (λ _ e. omega arith, λ _ e. omega arith))));
        }

    -- R15 asks for a task that is found by root
    apart-seeks : (t : Option Found) → is_single_instance tb b ≡ false → is_single_task tb b ≡ false → (how_found t ≡ 1 → Rooted)
        → Seeks (rule_in Group.Apart t) t
    unfolding rules_of fits
    apart-seeks t i k rooted =
        record {
          by_root = rooted;
          never15 = λ e.
              first-elim (λ r. number_of r ≡ 15 → ⊥) Rule.R18 (fits tb s b f t) (rules_of Group.Apart) (
                λ _ n. omega arith,
                λ _. (
                  λ _ n. omega arith,
                  λ _. (
                    λ _ n. omega arith,
                    λ _. (
                      λ _ n. omega arith,
                      λ _. (
                        λ x n. contradiction (rooted (is-by-root t (and_left (is_found_by_root t) _ x))) (six-seeks i k e),
                        λ _. (λ _ n. omega arith, λ _. (λ _ n. omega arith, λ _. (λ _ n. omega arith, λ _ n. omega arith))),
                      ),
                    ),
                  ),
                ),
              );
        }

    abbrev Chosen : Choice → Type 0
    Chosen c = EditionSeeks tb s b (reason_of c)

    sought-by-both : (t : Option Found) → seek tb s.edition b s.tasks ≡ t → Finds tb s.edition b s.tasks t
    sought-by-both t e = (seek-exact tb s.edition b s.tasks t).0 e

    choose-seeks : Chosen (choose tb s b f)
    unfolding choose choose_in group_of sought_by
    choose-seeks =
        if-elim (λ g. Chosen (choose_in tb s b f g)) (is_single_instance tb b) _ _ (λ i. instance-seeks (seek_root b s.tasks) i)
        (λ i. if-elim (λ g. Chosen (choose_in tb s b f g)) (is_single_task tb b) _ _ (λ _. task-seeks _ (sought-by-both _ refl))
        (λ k. if-elim (λ g. Chosen (choose_in tb s b f g)) (is_apart tb s b f) _ _
        (λ _. if-elim (λ t. Seeks (rule_in Group.Apart t) t) f.mtk None (seek tb s.edition b s.tasks)
        (λ _. apart-seeks None i k (λ e. absurd (omega arith)))
        (λ _. let t = seek tb s.edition b s.tasks in apart-seeks t i k (by-root t (sought-by-both t refl))))
        (λ _. near-seeks)))

-- of every start
pub edition-seeks : (tb : List ℕ) (s : State ℕ) (b w : ℕ) → EditionSeeks tb s b (reason_of (chosen tb s b w))
edition-seeks tb s b w = choose-seeks tb s b (flags_of w)

-- ---- a session keeps its edition until it is empty

carried-edition : (b : ℕ) (d : Effect) (p : ℕ) (s : State ℕ) → (carry_out (eqb b) b b d p s).edition ≡ s.edition
unfolding carry_out put_new change_front move
carried-edition b Effect.New p s = refl
carried-edition b (Effect.InFront c) p s = refl
carried-edition b (Effect.MoveAnd c) p s = refl

-- the edition of a sound session is the one that it would keep
same-edition : (tb : List ℕ) (s s' : State ℕ) → Sound tb s' → s'.edition ≡ s.edition → EditionKept s s'
same-edition tb s s' h e = sym h.edition.kept ∙ ap (edition_kept (count s')) e

closed-edition : (tb : List ℕ) (k i : ℕ) (s : State ℕ) → Sound tb (close (suc k) i s) → EditionKept s (close (suc k) i s)
closed-edition tb k i s h = go (is_empty (task_left (suc k) i s).screens) refl
  where
    go : (b : Bool) → is_empty (task_left (suc k) i s).screens ≡ b → EditionKept s (close (suc k) i s)
    go true e = rw (close-emptied (suc k) i s e)
    go false e = same-edition tb s (close (suc k) i s) h (ap (λ (u : State ℕ). u.edition) (close-kept (suc k) i s e))

close-at-edition : (tb : List ℕ) (k : Option Position) (s : State ℕ) → Sound tb (close_at k s) → EditionKept s (close_at k s)
close-at-edition tb None s h = same-edition tb s s h refl
close-at-edition tb (Some p) s h = closed-edition tb p.behind p.below s h

module _ (tb : List ℕ) (ok : table_refusal tb ≡ 0) (s : State ℕ) (h : Sound tb s) where
  started-edition : (b w : ℕ) → (started_by (chosen tb s b w) b s).edition ≡ s.edition
  started-edition b w = let c = chosen tb s b w in carried-edition b (effect_in s c) (place_of c.found) s

  -- whether the caller closes or not
  with-edition : (closes : Bool) (b w : ℕ) → refusal (start_checks tb s b w) ≡ 0
      → let c = chosen tb s b w in
      Sound tb (started_with closes (effect_in s c) (place_of c.found) b s) → EditionKept s (started_with closes (effect_in s c) (place_of c.found) b s)
  with-edition true b w e =
      let c = chosen tb s b w in
      rw (finished-by tb b (flags_of w) s h (start-accepted tb s b w e).some)
      (λ k. close-at-edition tb (mark_of c b s) (started_by c b s) k ∙ ap (edition_kept (count (close_at (mark_of c b s) (started_by c b s)))) (started-edition b w))
  with-edition false b w e = λ k. same-edition tb s _ k (started-edition b w)

  start-kept : (finishing : Bool) (b w : ℕ) → refusal (start_checks tb s b w) ≡ 0 → EditionKept s (started finishing tb s b w)
  unfolding started
  start-kept finishing b w e =
      let x = caller_closes finishing s.no_history (chosen tb s b w).rule in
      with-edition x b w e (with-sound tb finishing s b w h e x)

  done-edition : (c : Call) → NamesNoEdition c → refusal (own_checks tb s c) ≡ 0 → Sound tb (done tb s c) → EditionKept s (done tb s c)
  unfolding done backed own_checks
  done-edition (launch e) n r k = absurd n
  done-edition (start b w) n r k = start-kept false b w r
  done-edition (finishing_start b w) n r k = start-kept true b w r
  done-edition back n r k = closed-edition tb 0 0 s k
  done-edition look n r k = same-edition tb s s k refl
  done-edition (restore bytes) n r k = absurd n

  -- each start, finishing start, Back or look, refused or not
  pub edition-kept : (c : Call) → NamesNoEdition c → EditionKept s (call tb s c).session
  edition-kept c n =
      let k = call-sound tb ok s h c in
      rw (settled tb ok s h c) (go (refusal (own_checks tb s c)) refl (rw (settled tb ok s h c) at k))
    where
      go : (j : ℕ) → refusal (own_checks tb s c) ≡ j
          → Sound tb (settle outcome j s (done tb s c) (answer_to tb s c)).session
          → EditionKept s (settle outcome j s (done tb s c) (answer_to tb s c)).session
      go zero e k = done-edition c n e k
      go (suc j) e k = same-edition tb s s h refl

-- an empty session has edition 8
pub empty-edition : (tb : List ℕ) (s : State ℕ) → Sound tb s → count s ≡ 0 → s.edition ≡ 8
empty-edition tb s h e = sym h.edition.kept ∙ ap (λ (n : ℕ). edition_kept n s.edition) e

-- ---- images

-- "two sessions of unlike edition never share an image"
abbrev EditionsApart : List ℕ → Type 0
EditionsApart tb = (s t : State ℕ) → sound tb s ≡ true → sound tb t ≡ true → (s.edition ≡ t.edition → ⊥) → image s ≡ image t → ⊥

pub editions-apart : (tb : List ℕ) → EditionsApart tb
editions-apart tb s t h k differ e =
    differ (ap (λ (u : State ℕ). u.edition) (image_injective tb s t ((sound-decides tb s).holds h) ((sound-decides tb t).holds k) e))
