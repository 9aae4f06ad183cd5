-- The records in a list of calls that are no call: where they stand.
use Rattle.std.specs.Prelude.{ℕ, zero, suc, ◌+◌, Bool, ◌||◌, List, [], ◌++◌, eqb, ltb, length, get_or, drop, if◌then◌else◌}
use Rattle.notes.specs.Places.{place_if}
use Rattle.recording.specs.CallBytes.{restore_kind, first_image, first_whole}

-- none of the kinds 1 to 6
abbrev pub unknown_kind : ℕ → Bool
unknown_kind kind = eqb kind 0 || ltb restore_kind kind

-- their places among the first n records, of which the first stands at p: a record of an unknown kind, and one that is cut
unfoldable pub ignored_among : ℕ → ℕ → List ℕ → List ℕ
ignored_among zero p bytes = []
ignored_among (suc n) p bytes =
    if first_whole bytes
    then place_if (unknown_kind (get_or bytes 0 0)) p ++ ignored_among n (p + (6 + first_image bytes)) (drop (6 + first_image bytes) bytes)
    else place_if (ltb 0 (length bytes)) p

-- among all records, which are not more than the bytes
abbrev pub ignored_from : ℕ → List ℕ → List ℕ
ignored_from p bytes = ignored_among (length bytes) p bytes
