-- Two laws of lists of calls, over any machine: what every call keeps, every list keeps; and where each call of one machine
-- amounts to calls of another, a list does to the list of those.
use mathlib.Core.Path.{◌≡◌, refl, sym, ◌∙◌, ap, ap₂, subst}
use mathlib.Core.List.{List, [], ◌∷◌, ◌++◌, map, map-id}
use Rattle.model.specs.Lists.{All}
use Rattle.model.specs.Histories.{Machine, after, answers}
use Rattle.model.proofs.Logic.{All-of}
use Rattle.model.proofs.HistoryLaws.{after-append, answers-append}

-- ---- what is kept. Made says which calls are made, and Told what is known of each answer.

module _ {S C A : Type 0} (m : Machine S C A) (Kept : S → Type 0) (Made : C → Type 0) (Told : A → Type 0)
    (keeps : (s : S) → Kept s → (c : C) → Made c → Kept (m.next s c))
    (tells : (s : S) → Kept s → (c : C) → Made c → Told (m.answer s c)) where
  pub run-keeps : (s : S) → Kept s → (cs : List C) → All Made cs → Kept (after m s cs) × All Told (answers m s cs)
  unfolding after answers
  run-keeps s h [] made = (h, tt)
  run-keeps s h (c ∷ cs) made =
      let r = run-keeps (m.next s c) (keeps s h c made.0) cs made.1 in
      (r.0, (tells s h c made.0, r.1))

-- by all calls, where nothing is told of the answers
pub after_kept : {S C A : Type 0} (m : Machine S C A) (Kept : S → Type 0) → ((s : S) → Kept s → (c : C) → Kept (m.next s c))
    → (s : S) → Kept s → (cs : List C) → Kept (after m s cs)
after_kept {C} m Kept keeps s h cs =
    (run-keeps m Kept (λ c. Unit {0}) (λ a. Unit {0}) (λ s h c _. keeps s h c) (λ s h c _. tt) s h cs (All-of (λ c. tt) cs)).0

-- ---- one machine follows another

-- what each call gives in the session that it gets, one behind the other
unfoldable pub traced : {S C A X : Type 0} → Machine S C A → (S → C → List X) → S → List C → List X
traced m f s [] = []
traced m f s (c ∷ cs) = f s c ++ traced m f (m.next s c) cs

-- Where Like relates a session of m to one of m', a call c amounts to the calls `asks s c` of m', which get the answers `says s c`.
module _ {S C A S' C' A' : Type 0} (m : Machine S C A) (m' : Machine S' C' A') (Like : S → S' → Type 0) (Made : C → Type 0)
    (asks : S → C → List C') (says : S → C → List A')
    (steps : (s : S) (s' : S') → Like s s' → (c : C) → Made c → Like (m.next s c) (after m' s' (asks s c)))
    (told : (s : S) (s' : S') → Like s s' → (c : C) → Made c → answers m' s' (asks s c) ≡ says s c) where
  pub run-like : (s : S) (s' : S') → Like s s' → (cs : List C) → All Made cs
      → Like (after m s cs) (after m' s' (traced m asks s cs)) × (answers m' s' (traced m asks s cs) ≡ traced m says s cs)
  unfolding after answers traced
  run-like s s' h [] made = (h, refl)
  run-like s s' h (c ∷ cs) made =
      let ds = traced m asks (m.next s c) cs in
      let r = run-like (m.next s c) (after m' s' (asks s c)) (steps s s' h c made.0) cs made.1 in (
        subst (λ (u : S'). Like (after m (m.next s c) cs) u) (sym (after-append m' (asks s c) ds s')) r.0,
        answers-append m' (asks s c) ds s' ∙ ap₂ ◌++◌ (told s s' h c made.0) r.1,
      )

-- by one call for each

module _ {S C A : Type 0} (m : Machine S C A) where
  traced-map : {X : Type 0} (f : C → X) (s : S) (cs : List C) → traced m (λ s c. f c ∷ []) s cs ≡ map f cs
  unfolding traced
  traced-map f s [] = refl
  traced-map {X} f s (c ∷ cs) = ap (λ (l : List X). f c ∷ l) (traced-map f (m.next s c) cs)

  traced-answers : (s : S) (cs : List C) → traced m (λ s c. m.answer s c ∷ []) s cs ≡ answers m s cs
  unfolding traced answers
  traced-answers s [] = refl
  traced-answers s (c ∷ cs) = ap (λ (l : List A). m.answer s c ∷ l) (traced-answers (m.next s c) cs)

module _ {S C A S' C' : Type 0} (m : Machine S C A) (m' : Machine S' C' A) (Like : S → S' → Type 0) (Made : C → Type 0) (f : C → C')
    (steps : (s : S) (s' : S') → Like s s' → (c : C) → Made c → Like (m.next s c) (m'.next s' (f c)))
    (told : (s : S) (s' : S') → Like s s' → (c : C) → Made c → m'.answer s' (f c) ≡ m.answer s c) where
  pub run-each : (s : S) (s' : S') → Like s s' → (cs : List C) → All Made cs
      → Like (after m s cs) (after m' s' (map f cs)) × (answers m' s' (map f cs) ≡ answers m s cs)
  unfolding after answers
  run-each s s' h cs made =
      let r =
      run-like m m' Like Made (λ s c. f c ∷ []) (λ s c. m.answer s c ∷ []) steps
      (λ s s' h c l. ap (λ (a : A). a ∷ []) (told s s' h c l)) s s' h cs made in
      rw (traced-map m f s cs, traced-answers m s cs) at r

-- by the same calls, all of them
module _ {S S' C A : Type 0} (m : Machine S C A) (m' : Machine S' C A) (Like : S → S' → Type 0)
    (steps : (s : S) (s' : S') → Like s s' → (c : C) → Like (m.next s c) (m'.next s' c))
    (told : (s : S) (s' : S') → Like s s' → (c : C) → m'.answer s' c ≡ m.answer s c) where
  pub run-same : (s : S) (s' : S') → Like s s' → (cs : List C)
      → Like (after m s cs) (after m' s' cs) × (answers m' s' cs ≡ answers m s cs)
  run-same s s' h cs =
      rw (map-id cs) at
      (run-each m m' Like (λ c. Unit {0}) (λ c. c) (λ s s' h c _. steps s s' h c) (λ s s' h c _. told s s' h c) s s' h cs
      (All-of (λ c. tt) cs))
