-- What the searches of 01 find: `find` gives the first place at which a statement holds, and 0 exactly where it holds at
-- none; `seek_root` and `seek` give a task by root or by affinity exactly as 01 says. For all tables and all lists.
use Prim.Native.Nat.{ℕ, zero, suc, pred, ◌≤◌, ◌<◌}
use mathlib.Core.Path.{◌≡◌, refl, ◌∙◌}
use mathlib.Core.Logic.{◌↔◌}
use mathlib.Core.Bool.{Bool, true, false, ◌&&◌, false≢true}
use mathlib.Core.List.{List, [], ◌∷◌}
use native.Mathlib.Omega.{arith}
use lib.Dec.{ltb, eqb}
use lib.ListN.{length, get_or}
use borrow.Author.Tests.{ltb-true, ltb-false}
use Rattle.model.specs.declared.By.{By}
use Rattle.model.specs.declared.Found.{Found}
use Rattle.std.specs.Prelude.{if◌then◌else◌, Option, None, Some}
use Rattle.model.specs.Lists.{is_place, find, All}
use Rattle.model.specs.Table.{affinity_of, is_single_instance}
use Rattle.model.specs.Session.{Stack, no_stack}
use Rattle.model.specs.Search.{has_root, akin, has_affinity, is_found, seek_root, seek_affinity, seeks_by_root, seek, holds, root_at, affinity_at}
use Rattle.model.proofs.Logic.{Decides, and-decides, not-decides, eqb-decides, false-decides, refuted, contradiction, All-map, All-at}
use Rattle.model.proofs.ListLaws.{FoundAt, find_spec, find_none}

-- ---- find

module _ {A : Type 0} (d : A) where
  -- the place p (from 1) is the first at which the statement holds
  pub record FirstPlace (P : A → Type 0) (xs : List A) (p : ℕ) : Type 0 where
    pub least : 1 ≤ p
    pub most : p ≤ length xs
    pub fits : P (get_or xs (pred p) d)
    pub earlier : (q : ℕ) → 1 ≤ q → q < p → P (get_or xs (pred q) d) → ⊥

module _ {A : Type 0} (d : A) {P : A → Type 0} {test : A → Bool} (decides : (x : A) → Decides (test x) (P x)) where
  fails : (x : A) → test x ≡ false → P x → ⊥
  fails x e h = contradiction ((decides x).shows h) e

  found_first : (xs : List A) (k : ℕ) → FoundAt test d xs k → FirstPlace d P xs (suc k)
  found_first xs k f = record { least = omega arith; most = f.inside; fits = (decides (get_or xs k d)).holds f.fits; earlier = before }
    where
      before : (q : ℕ) → 1 ≤ q → q < suc k → P (get_or xs (pred q) d) → ⊥
      before zero l m = absurd (omega arith)
      before (suc j) l m = fails (get_or xs j d) (f.earlier j (omega arith))

  none-fits : (xs : List A) → find test xs ≡ 0 → All (λ x. P x → ⊥) xs
  none-fits xs e = All-map fails xs (find_none test d xs e)

  fails-all : (xs : List A) → All (λ x. P x → ⊥) xs → find test xs ≡ 0
  fails-all [] h = refl
  fails-all (x ∷ xs) h = rw (refuted (test x) (decides x) h.0, fails-all xs h.1)

  -- a list has one first place at most
  first-unique : (xs : List A) (p q : ℕ) → FirstPlace d P xs p → FirstPlace d P xs q → p ≡ q
  first-unique xs p q h k = go (ltb p q) refl (ltb q p) refl
    where
      go : (a : Bool) → ltb p q ≡ a → (b : Bool) → ltb q p ≡ b → p ≡ q
      go true e b f = absurd (k.earlier p h.least (ltb-true p q e) h.fits)
      go false e true f = absurd (h.earlier q k.least (ltb-true q p f) k.fits)
      go false e false f = omega (arith, ltb-false p q e, ltb-false q p f)

  -- a place is found exactly where it is the first at which the statement holds
  pub find_first : (xs : List A) (k : ℕ) → (find test xs ≡ suc k) ↔ FirstPlace d P xs (suc k)
  find_first xs k = (λ e. found_first xs k (find_spec test d xs k e), λ h. go (find test xs) refl h)
    where
      go : (n : ℕ) → find test xs ≡ n → FirstPlace d P xs (suc k) → find test xs ≡ suc k
      go zero e h = absurd (All-at (λ x. P x → ⊥) xs k d h.most (none-fits xs e) h.fits)
      go (suc j) e h = e ∙ first-unique xs (suc j) (suc k) (found_first xs j (find_spec test d xs j e)) h

  -- none is found exactly where the statement holds of no element
  pub find-nowhere : (xs : List A) → (find test xs ≡ 0) ↔ All (λ x. P x → ⊥) xs
  find-nowhere xs = (none-fits xs, fails-all xs)

-- ---- tasks

-- "whose root is B"
abbrev pub HasRoot : ℕ → Stack ℕ → Type 0
HasRoot b t = t.root ≡ b

-- "whose root is not single-instance and has B's affinity", which is not 0
abbrev pub HasAffinity : List ℕ → ℕ → Stack ℕ → Type 0
HasAffinity tb b t = ((is_single_instance tb t.root ≡ false) × (affinity_of tb t.root ≡ affinity_of tb b)) × (affinity_of tb b ≡ 0 → ⊥)

-- "the first task from the front" of which the statement holds stands at the place p
abbrev pub FirstTask : (Stack ℕ → Type 0) → List (Stack ℕ) → ℕ → Type 0
FirstTask P ts p = FirstPlace no_stack P ts p

abbrev pub NoTask : (Stack ℕ → Type 0) → List (Stack ℕ) → Type 0
NoTask P ts = All (λ t. P t → ⊥) ts

-- nothing was found, or a task by root, or one by affinity
pub found-cases : (P : Option Found → Type 0) → P None → ((p : ℕ) → P (root_at p)) → ((p : ℕ) → P (affinity_at p)) → (t : Option Found) → P t
found-cases P n r a None = n
found-cases P n r a (Some f) = go f.by
  where
    go : (by : By) → P (Some (record { place = f.place; by = by }))
    go By.Root = r f.place
    go By.Affinity = a f.place

-- what "By root" finds among the tasks
abbrev pub FirstByRoot : ℕ → List (Stack ℕ) → By → ℕ → Type 0
FirstByRoot b ts By.Root p = FirstTask (HasRoot b) ts p
FirstByRoot b ts By.Affinity p = ⊥

abbrev pub FindsByRoot : ℕ → List (Stack ℕ) → Option Found → Type 0
FindsByRoot b ts None = NoTask (HasRoot b) ts
FindsByRoot b ts (Some f) = FirstByRoot b ts f.by f.place

-- no task was found by root, where the edition e seeks by root
abbrev pub NoneByRoot : List ℕ → ℕ → ℕ → List (Stack ℕ) → Type 0
NoneByRoot tb e b ts = seeks_by_root tb e b ≡ true → NoTask (HasRoot b) ts

-- what "sought by root, then by affinity" finds in the edition e
abbrev pub FirstBy : List ℕ → ℕ → ℕ → List (Stack ℕ) → By → ℕ → Type 0
FirstBy tb e b ts By.Root p = (seeks_by_root tb e b ≡ true) × FirstTask (HasRoot b) ts p
FirstBy tb e b ts By.Affinity p = NoneByRoot tb e b ts × FirstTask (HasAffinity tb b) ts p

abbrev pub Finds : List ℕ → ℕ → ℕ → List (Stack ℕ) → Option Found → Type 0
Finds tb e b ts None = NoneByRoot tb e b ts × NoTask (HasAffinity tb b) ts
Finds tb e b ts (Some f) = FirstBy tb e b ts f.by f.place

pub root-decides : (b : ℕ) (t : Stack ℕ) → Decides (has_root b t) (HasRoot b t)
unfolding has_root
root-decides b t = eqb-decides t.root b

pub affinity-decides : (tb : List ℕ) (b : ℕ) (t : Stack ℕ) → Decides (has_affinity tb b t) (HasAffinity tb b t)
unfolding has_affinity akin
affinity-decides tb b t =
    and-decides (and-decides (false-decides _) (eqb-decides (affinity_of tb t.root) (affinity_of tb b))) (not-decides (eqb-decides (affinity_of tb b) 0))

module _ (b : ℕ) (ts : List (Stack ℕ)) where
  finds-root : (k : ℕ) → (find (has_root b) ts ≡ suc k) ↔ FirstTask (HasRoot b) ts (suc k)
  finds-root = find_first no_stack (root-decides b) ts

  no-root : (find (has_root b) ts ≡ 0) ↔ NoTask (HasRoot b) ts
  no-root = find-nowhere no_stack (root-decides b) ts

  seek_root-finds : FindsByRoot b ts (seek_root b ts)
  unfolding seek_root
  seek_root-finds = go (find (has_root b) ts) refl
    where
      go : (n : ℕ) → find (has_root b) ts ≡ n → FindsByRoot b ts (if is_place n then root_at n else None)
      go zero e = no-root.0 e
      go (suc k) e = (finds-root k).0 e

  finds-seek_root : (t : Option Found) → FindsByRoot b ts t → seek_root b ts ≡ t
  unfolding seek_root
  finds-seek_root =
      found-cases (λ t. FindsByRoot b ts t → seek_root b ts ≡ t) (λ h. rw (no-root.1 h)) at_root (λ p h. absurd h)
    where
      at_root : (p : ℕ) → FirstTask (HasRoot b) ts p → seek_root b ts ≡ root_at p
      at_root zero h = absurd (omega (arith, h.least))
      at_root (suc k) h = rw ((finds-root k).1 h)

  -- the search by root finds exactly that
  pub seek_root-exact : (t : Option Found) → (seek_root b ts ≡ t) ↔ FindsByRoot b ts t
  seek_root-exact t = (λ e. rw e at seek_root-finds, finds-seek_root t)

module _ (tb : List ℕ) (v b : ℕ) (ts : List (Stack ℕ)) where
  finds-affinity : (k : ℕ) → (find (has_affinity tb b) ts ≡ suc k) ↔ FirstTask (HasAffinity tb b) ts (suc k)
  finds-affinity = find_first no_stack (affinity-decides tb b) ts

  no-affinity : (find (has_affinity tb b) ts ≡ 0) ↔ NoTask (HasAffinity tb b) ts
  no-affinity = find-nowhere no_stack (affinity-decides tb b) ts

  -- the search, by whether it is by root, the place found by root, and the place found by affinity
  abbrev sought : Bool → ℕ → ℕ → Option Found
  sought x n m =
      if x && is_found (if is_place n then root_at n else None) then (if is_place n then root_at n else None) else
      if is_place m then affinity_at m else None

  seek_finds : Finds tb v b ts (seek tb v b ts)
  unfolding seek seek_root seek_affinity
  seek_finds = go (seeks_by_root tb v b) refl (find (has_root b) ts) refl (find (has_affinity tb b) ts) refl
    where
      go : (x : Bool) → seeks_by_root tb v b ≡ x → (n : ℕ) → find (has_root b) ts ≡ n → (m : ℕ) → find (has_affinity tb b) ts ≡ m
          → Finds tb v b ts (sought x n m)
      go true g zero e zero f = (λ _. (no-root b ts).0 e, no-affinity.0 f)
      go true g zero e (suc j) f = (λ _. (no-root b ts).0 e, (finds-affinity j).0 f)
      go true g (suc k) e m f = (g, (finds-root b ts k).0 e)
      go false g n e zero f = (λ x. contradiction x g, no-affinity.0 f)
      go false g n e (suc j) f = (λ x. contradiction x g, (finds-affinity j).0 f)

  -- nothing is found by root: no root is sought, or there is none
  only-affinity : (m : ℕ) → NoneByRoot tb v b ts → sought (seeks_by_root tb v b) (find (has_root b) ts) m ≡ (if is_place m then affinity_at m else None)
  only-affinity m h = go (seeks_by_root tb v b) refl
    where
      go : (x : Bool) → seeks_by_root tb v b ≡ x → sought x (find (has_root b) ts) m ≡ (if is_place m then affinity_at m else None)
      go true g = rw ((no-root b ts).1 (h g))
      go false g = refl

  finds-seek : (t : Option Found) → Finds tb v b ts t → seek tb v b ts ≡ t
  unfolding seek seek_root seek_affinity
  finds-seek =
      found-cases (λ t. Finds tb v b ts t → seek tb v b ts ≡ t)
      (λ h. only-affinity (find (has_affinity tb b) ts) h.0 ∙ rw (no-affinity.1 h.1)) at_root at_affinity
    where
      at_root : (p : ℕ) → Finds tb v b ts (root_at p) → seek tb v b ts ≡ root_at p
      at_root zero h = absurd (omega (arith, h.1.least))
      at_root (suc k) h = rw (h.0, (finds-root b ts k).1 h.1)

      at_affinity : (p : ℕ) → Finds tb v b ts (affinity_at p) → seek tb v b ts ≡ affinity_at p
      at_affinity zero h = absurd (omega (arith, h.1.least))
      at_affinity (suc k) h = only-affinity (find (has_affinity tb b) ts) h.0 ∙ rw ((finds-affinity k).1 h.1)

  -- the search by root, then by affinity, finds exactly that
  pub seek-exact : (t : Option Found) → (seek tb v b ts ≡ t) ↔ Finds tb v b ts t
  seek-exact t = (λ e. rw e at seek_finds, finds-seek t)

-- "holds B": B is one of the screens
pub holds-decides : (b : ℕ) (xs : List ℕ) → Decides (holds b xs) ((i : ℕ) × (i < length xs) × (b ≡ get_or xs i 0))
unfolding holds
holds-decides b xs = record { holds = λ h. stands (find (eqb b) xs) refl h; shows = λ h. seen (find (eqb b) xs) refl h }
  where
    stands : (n : ℕ) → find (eqb b) xs ≡ n → is_place n ≡ true → (i : ℕ) × (i < length xs) × (b ≡ get_or xs i 0)
    stands zero e h = absurd (false≢true h)
    stands (suc k) e h = let f = (find_first 0 (eqb-decides b) xs k).0 e in (k, f.most, f.fits)

    seen : (n : ℕ) → find (eqb b) xs ≡ n → (i : ℕ) × (i < length xs) × (b ≡ get_or xs i 0) → is_place n ≡ true
    seen zero e (i, l, f) = absurd (All-at (λ x. b ≡ x → ⊥) xs i 0 l ((find-nowhere 0 (eqb-decides b) xs).0 e) f)
    seen (suc k) e h = refl
