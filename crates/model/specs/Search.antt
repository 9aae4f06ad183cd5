-- Document 01, "Calls": the searches for a task, and for a screen in a task; and how the editions of document 02 seek.
use Rattle.std.specs.Prelude.{ℕ, Bool, true, false, not, ◌&&◌, ◌||◌, List, eqb, if◌then◌else◌, Option, Some, None}
use Rattle.model.specs.declared.By.{By}
use Rattle.model.specs.declared.Found.{Found}
use Rattle.model.specs.Lists.{is_place, find}
use Rattle.model.specs.Table.{affinity_of, is_single_task, is_single_instance}
use Rattle.model.specs.Session.{Stack}

-- "By root: the first task from the front whose root is B."
unfoldable pub has_root : ℕ → Stack ℕ → Bool
has_root b t = eqb t.root b

-- a root x "is not single-instance and has B's affinity"; and "a screen of affinity 0 is never found by affinity" (02,
-- request 3). "nor is a task whose root has affinity 0" needs no test of its own: it would have B's.
unfoldable pub akin : List ℕ → ℕ → ℕ → Bool
akin tb b x = (not (is_single_instance tb x) && eqb (affinity_of tb x) (affinity_of tb b)) && not (eqb (affinity_of tb b) 0)

-- "By affinity: the first such task counted from the front whose root is not single-instance and has B's affinity."
unfoldable pub has_affinity : List ℕ → ℕ → Stack ℕ → Bool
has_affinity tb b t = akin tb b t.root

-- a task that was sought is nowhere, or at a place, by its root or by its affinity
abbrev pub root_at : ℕ → Option Found
root_at p = Some (record { place = p; by = By.Root })

abbrev pub affinity_at : ℕ → Option Found
affinity_at p = Some (record { place = p; by = By.Affinity })

abbrev pub place_of : Option Found → ℕ
place_of None = 0
place_of (Some f) = f.place

abbrev pub is_found : Option Found → Bool
is_found None = false
is_found (Some f) = true

abbrev pub is_root : By → Bool
is_root By.Root = true
is_root By.Affinity = false

abbrev pub is_found_by_root : Option Found → Bool
is_found_by_root None = false
is_found_by_root (Some f) = is_root f.by

unfoldable pub seek_root : ℕ → List (Stack ℕ) → Option Found
seek_root b ts = if is_place (find (has_root b) ts) then root_at (find (has_root b) ts) else None

unfoldable pub seek_affinity : List ℕ → ℕ → List (Stack ℕ) → Option Found
seek_affinity tb b ts =
    if is_place (find (has_affinity tb b) ts) then affinity_at (find (has_affinity tb b) ts) else None

-- "Edition 6 ..: except for single-instance screens, search is by affinity only ..; a single-task screen of affinity 0 is still
-- sought by root" (02, request 4). The other editions seek by root; e is the edition.
unfoldable pub seeks_by_root : List ℕ → ℕ → ℕ → Bool
seeks_by_root tb e b = (is_single_instance tb b || not (eqb e 6)) || (is_single_task tb b && eqb (affinity_of tb b) 0)

-- "sought by root, then by affinity": all tasks by root first, where the edition seeks by root
unfoldable pub seek : List ℕ → ℕ → ℕ → List (Stack ℕ) → Option Found
seek tb e b ts = if seeks_by_root tb e b && is_found (seek_root b ts) then seek_root b ts else seek_affinity tb b ts

-- "holds B": B stands among the task's screens
unfoldable pub holds : ℕ → List ℕ → Bool
holds b xs = is_place (find (eqb b) xs)
