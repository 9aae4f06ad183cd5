-- The roots of a session's tasks: gathered one by one, searched for the tasks, and screens of the table.
use Prim.Native.Nat.{ℕ, zero, suc, ◌+◌, ◌<◌}
use mathlib.Core.Path.{◌≡◌, refl, sym, ◌∙◌, ap}
use mathlib.Core.Bool.{Bool, true, not, ◌&&◌}
use mathlib.Core.List.{List, [], ◌∷◌, map}
use native.Mathlib.Numerals.{add-one}
use native.Mathlib.Omega.{arith}
use lib.ListN.{length, get_or, set, take, length-take, length-map, get_or-map}
use lib.Seq.{take-suc, take-suc-set}
use lib.Dec.{eqb}
use Rattle.model.specs.Lists.{find, All}
use Rattle.model.specs.Table.{size_of, affinity_of, is_single_instance}
use Rattle.model.specs.Session.{Stack}
use Rattle.model.specs.Search.{has_root, akin, has_affinity}
use Rattle.model.proofs.Logic.{Decides, and-decides, self-decides, same_test, All-map}
use Rattle.model.proofs.ListLaws.{find-map, All-to-map, All-of-map}
use Rattle.session.specs.declared.Task.{Task}
use Rattle.session.specs.declared.Session.{Session}
use Rattle.session.specs.Stored.{no_task, view_task, view, sound_stored, root, roots_of}
use Rattle.session.proofs.StoredLaws.{sound-view, sound-blank, blank-few}
use Rattle.search.specs.Ready.{ReadyFor}
use Rattle.search.specs.Roots.{RootsFor}

take-map : {A B : Type 0} (f : A → B) (n : ℕ) (xs : List A) → take n (map f xs) ≡ map f (take n xs)
take-map f zero xs = refl
take-map f (suc n) [] = refl
take-map f (suc n) (x ∷ xs) = ap (λ l. f x ∷ l) (take-map f n xs)

-- the root at i is stored behind those before it
pub next-root : (ts : List Task) (roots : List ℕ) (i : ℕ) → i < length roots → i < length ts → take i roots ≡ take i (roots_of ts)
    → take (i + 1) (set roots i (get_or ts i no_task).root) ≡ take (i + 1) (roots_of ts)
next-root ts roots i h k e =
    rw (add-one i, take-suc-set roots i (get_or ts i no_task).root h, e)
    (sym (take-suc (roots_of ts) i 0 (omega (arith, length-map ts root)) ∙ rw (get_or-map root ts i no_task)))

module _ (c : Session) where
  abbrev ts : List Task
  ts = take c.n c.tasks

  -- a search by a test of roots finds the task
  find-roots : (q : ℕ → Bool) → find q (take c.n (roots_of c.tasks)) ≡ find (λ (t : Stack ℕ). q t.root) (view c).tasks
  unfolding view view_task
  find-roots q = ap (find q) (take-map root c.n c.tasks) ∙ find-map root q ts ∙ sym (find-map view_task (λ t. q t.root) ts)

  module _ (b : ℕ) {roots : List ℕ} (e : roots ≡ roots_of c.tasks) {p : ℕ} where
    pub found-root : p ≡ find (λ x. eqb x b) (take c.n roots) → p ≡ find (has_root b) (view c).tasks
    unfolding has_root
    found-root f = f ∙ rw e (find-roots (λ x. eqb x b))

    pub found-affinity : (tb : List ℕ) → p ≡ find (akin tb b) (take c.n roots) → p ≡ find (has_affinity tb b) (view c).tasks
    unfolding has_affinity
    found-affinity tb f = f ∙ rw e (find-roots (akin tb b))

module _ (tb : List ℕ) where
  -- in a sound session
  pub roots-known : (c : Session) → sound_stored tb c ≡ true → All (λ x. x < size_of tb) (take c.n (roots_of c.tasks))
  unfolding view view_task
  roots-known c ok =
      rw (take-map root c.n c.tasks)
      (All-to-map root (λ x. x < size_of tb) (take c.n c.tasks)
      (All-of-map view_task (λ t. t.root < size_of tb) (take c.n c.tasks) (All-map (λ t k. k.known) (view c).tasks (sound-view tb c ok).each)))

  -- with what was read of the root and of b
  pub akin-test : (b x : ℕ) {instance : Bool} {kin own : ℕ} → instance ≡ is_single_instance tb x → kin ≡ affinity_of tb x → own ≡ affinity_of tb b
      → akin tb b x ≡ ((not (eqb own 0) && eqb kin own) && not instance)
  unfolding akin
  akin-test b x i k o = rw (i, k, o) (turned (not (is_single_instance tb x)) (eqb (affinity_of tb x) (affinity_of tb b)) (not (eqb (affinity_of tb b) 0)))
    where
      turned : (p q r : Bool) → ((p && q) && r) ≡ ((r && q) && p)
      turned p q r =
          same_test (and-decides (and-decides (self-decides p) (self-decides q)) (self-decides r))
          (record {
            holds = λ e. let k = d.holds e in ((k.1, k.0.1), k.0.0);
            shows = λ k. d.shows ((k.1, k.0.1), k.0.0);
          })
        where
          d : Decides ((r && q) && p) (((r ≡ true) × (q ≡ true)) × (p ≡ true))
          d = and-decides (and-decides (self-decides r) (self-decides q)) (self-decides p)

-- what both searches rely on
pub roots-for : (tb : List ℕ) (s : Session) (b : ℕ) → ReadyFor tb s b → {stored : List ℕ} → stored ≡ roots_of s.tasks → RootsFor tb (take s.n stored) b
roots-for tb s b k {stored} e =
    let few = blank-few s (sound-blank _ _ k.ready.sound) in
    record {
      good = k.ready.good;
      few = omega (arith, length-take s.n stored);
      each = rw e (roots-known tb s k.ready.sound);
      known = k.known;
    }
