-- Document 02, request 14: panels and the operations of a step, over lists. Panels stand bottom first.
use Rattle.std.specs.Prelude.{ℕ, Bool, false, ◌&&◌, ◌||◌, List, [], ◌∷◌, ◌++◌, reverse, eqb, leb, ltb, length, if◌then◌else◌}
use Rattle.model.specs.Lists.{all}

-- "up to 8 panels (numbers 0 to 255, last one on top)"
abbrev pub most_panels : ℕ
most_panels = 8

pub record Operation : Type 0 where
  pub kind : ℕ
  pub panel : ℕ

abbrev pub operation : ℕ → ℕ → Operation
operation k p = record { kind = k; panel = p }

-- without the first p
abbrev pub without : ℕ → List ℕ → List ℕ
without p [] = []
without p (x ∷ xs) = if eqb x p then xs else x ∷ without p xs

-- "remove the topmost p, doing nothing if there is none": the first from above
unfoldable pub remove_topmost : ℕ → List ℕ → List ℕ
remove_topmost p xs = reverse (without p (reverse xs))

-- "add p on top (kind 1); remove the topmost p, .. (2); replace, which removes all and adds p (3)"
unfoldable pub operated : Operation → List ℕ → List ℕ
operated o xs =
    if eqb o.kind 1 then xs ++ (o.panel ∷ [])
    else if eqb o.kind 2 then remove_topmost o.panel xs
    else o.panel ∷ []

-- the operations of a step, one after the other
abbrev pub carried_out : List Operation → List ℕ → List ℕ
carried_out [] xs = xs
carried_out (o ∷ os) xs = carried_out os (operated o xs)

-- "an operation would make nine panels"
abbrev pub makes_nine : List Operation → List ℕ → Bool
makes_nine [] xs = false
makes_nine (o ∷ os) xs = ltb most_panels (length (operated o xs)) || makes_nine os (operated o xs)

-- ---- the operations as bytes: kind and panel in turn

abbrev pub operations_in : List ℕ → List Operation
operations_in [] = []
operations_in (k ∷ []) = []
operations_in (k ∷ p ∷ bytes) = operation k p ∷ operations_in bytes

-- "A step has 1 to 4 operations": half the length, and no byte is left over
unfoldable pub good_count : ℕ → Bool
good_count n = eqb n 2 || (eqb n 4 || (eqb n 6 || eqb n 8))

unfoldable pub good_kind : Operation → Bool
good_kind o = leb 1 o.kind && leb o.kind 3

-- not "a bad operation count or kind"
unfoldable pub good_operations : List ℕ → Bool
good_operations bytes = good_count (length bytes) && all good_kind (operations_in bytes)
