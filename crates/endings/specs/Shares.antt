-- What the bytes of a recording's records are taken for: images that restores bring, and what is left out.
use Rattle.std.specs.Prelude.{ℕ, zero, suc, ◌-◌, ◌≡◌, Bool, not, ◌&&◌, ◌||◌, List, [], ◌∷◌, ◌++◌, eqb, leb, length, get_or, take, drop, if◌then◌else◌}
use Rattle.model.specs.Lists.{sum_of}
use Rattle.model.specs.Player.{record_bytes}
use Rattle.notes.specs.Places.{place_if, Tells}
use Rattle.recording.specs.CallBytes.{restore_kind, first_whole}
use Rattle.recording.specs.Ignored.{unknown_kind}
use Rattle.recording.specs.OneCall.{call_length}
use Rattle.endings.specs.declared.Share.{Share}
use Rattle.endings.specs.declared.Portion.{Portion}

-- ---- the records of a recording, each as its bytes: six, or a restore's six and its image; a cut one takes all that are left

-- the first n of them
unfoldable pub records_among : ℕ → List ℕ → List (List ℕ)
records_among zero bytes = []
records_among (suc n) [] = []
records_among (suc n) (b ∷ bytes) =
    take (call_length (b ∷ bytes)) (b ∷ bytes) ∷ records_among n (drop (call_length (b ∷ bytes)) (b ∷ bytes))

-- all of them, which are not more than the bytes
abbrev pub records_of : List ℕ → List (List ℕ)
records_of recording = records_among (length (record_bytes recording)) (record_bytes recording)

-- ---- shares

-- a whole restore; a record that is no call, cut or of an unknown kind; a restore of which the six bytes are there and not the
-- whole image
abbrev pub is_in : Share → List ℕ → Bool
is_in Share.Images r = first_whole r && eqb (get_or r 0 0) restore_kind
is_in Share.LeftOut r = not (first_whole r) || unknown_kind (get_or r 0 0)
is_in Share.CutImage r = not (first_whole r) && leb 6 (length r)

-- of a restore the six bytes before the image are no part of it
abbrev pub header_of : Share → ℕ
header_of Share.Images = 6
header_of Share.LeftOut = 0
header_of Share.CutImage = 6

-- how many bytes of a record are in the share
unfoldable pub bytes_in : Share → List ℕ → ℕ
bytes_in share r = if is_in share r then length r - header_of share else 0

-- the numbers of the records in the share, where the first of all has the number i
unfoldable pub numbers_in : Share → ℕ → List (List ℕ) → List ℕ
numbers_in share i [] = []
numbers_in share i (r ∷ rs) = place_if (is_in share r) i ++ numbers_in share (suc i) rs

-- what is told of a share of the records
pub record Shares (share : Share) (records : List (List ℕ)) (r : Portion) : Type 0 where
  pub numbers : Tells (numbers_in share 1 records) r.records
  pub bytes : r.bytes ≡ sum_of (bytes_in share) records

-- the recording ends within a restore: so many images are cut, which is one at most
abbrev pub cut_images : List ℕ → ℕ
cut_images recording = length (numbers_in Share.CutImage 1 (records_of recording))
