-- Every list of calls whose images have a length of 32 bits is written as bytes and read back.
use Prim.Native.Nat.{ℕ, ◌/◌, ◌%◌}
use mathlib.Core.Path.{◌≡◌, refl, sym, ◌∙◌, ap}
use mathlib.Core.List.{List, [], ◌∷◌, ◌++◌}
use native.Mathlib.Omega.{arith}
use lib.ListN.{length, length-append}
use lib.Seq.{take_at, drop_at, drop-drop}
use Rattle.model.specs.Lists.{All}
use Rattle.model.specs.Calls.{Call, launch, start, finishing_start, back, look, restore}
use Rattle.model.specs.Player.{request_of, word_of}
use Rattle.model.specs.Histories.{IsByte, IsWord, Passable}
use Rattle.model.proofs.ListLaws.{All-append}
use Rattle.records.specs.Records.{bytes_of_record}
use Rattle.records.proofs.Words.{word_back}
use Rattle.recording.specs.CallBytes.{restore_kind, image_length, call_of, first_calls, calls_in}
use Rattle.recording.proofs.Reading.{calls-whole}

-- ---- how a list is written

unfoldable pub bytes_of : Call → List ℕ
bytes_of (launch e) = bytes_of_record 1 e 0
bytes_of (start b w) = bytes_of_record 2 b w
bytes_of (finishing_start b w) = bytes_of_record 3 b w
bytes_of back = bytes_of_record 4 0 0
bytes_of look = bytes_of_record 5 0 0
bytes_of (restore bytes) = bytes_of_record restore_kind 0 (length bytes) ++ bytes

unfoldable pub written_as : List Call → List ℕ
written_as [] = []
written_as (c ∷ cs) = bytes_of c ++ written_as cs

-- an image whose length is a word
abbrev pub ImageFits : Call → Type 0
ImageFits (launch e) = Unit {0}
ImageFits (start b w) = Unit {0}
ImageFits (finishing_start b w) = Unit {0}
ImageFits back = Unit {0}
ImageFits look = Unit {0}
ImageFits (restore bytes) = IsWord (length bytes)

-- ---- and read back

-- a record and the image that follows it
record-back : (k b w : ℕ) (image rest : List ℕ) → length image ≡ image_length k w
    → calls_in (bytes_of_record k b w ++ (image ++ rest)) ≡ call_of k b w image ++ calls_in rest
record-back k b w image rest e =
    let p : image_length k (word_of (w / 0x1000000) (w / 0x10000 % 0x100) (w / 0x100 % 0x100) (w % 0x100)) ≡ length image =
    ap (image_length k) (word_back w) ∙ sym e in
    calls-whole (bytes_of_record k b w ++ (image ++ rest)) (omega (arith, p, length-append image rest))
    ∙ rw (
      p,
      word_back w,
      take_at image rest (length image) refl,
      ← drop-drop (length image) 6 (bytes_of_record k b w ++ (image ++ rest)),
      drop_at image rest (length image) refl,
    )

-- one call, in front of a list
call_back : (c : Call) (l : List ℕ) → calls_in (bytes_of c ++ l) ≡ c ∷ calls_in l
unfolding bytes_of image_length call_of request_of
call_back (launch e) l = record-back 1 e 0 [] l refl
call_back (start b w) l = record-back 2 b w [] l refl
call_back (finishing_start b w) l = record-back 3 b w [] l refl
call_back back l = record-back 4 0 0 [] l refl
call_back look l = record-back 5 0 0 [] l refl
call_back (restore bytes) l = record-back 6 0 (length bytes) bytes l refl

-- every list of calls is read back from what it is written as
pub read_back : (cs : List Call) → calls_in (written_as cs) ≡ cs
unfolding written_as first_calls
read_back [] = refl
read_back (c ∷ cs) = call_back c (written_as cs) ∙ ap (λ (ds : List Call). c ∷ ds) (read_back cs)

-- ---- bytes

record-bytes : (k b w : ℕ) → IsByte k → IsByte b → IsWord w → All IsByte (bytes_of_record k b w)
record-bytes k b w x y z = (x, (y, (omega arith, (omega arith, (omega arith, (omega arith, tt))))))

call-bytes : (c : Call) → Passable c × ImageFits c → All IsByte (bytes_of c)
unfolding bytes_of
call-bytes (launch e) h = record-bytes 1 e 0 (omega arith) h.0 (omega arith)
call-bytes (start b w) h = record-bytes 2 b w (omega arith) h.0.0 h.0.1
call-bytes (finishing_start b w) h = record-bytes 3 b w (omega arith) h.0.0 h.0.1
call-bytes back h = record-bytes 4 0 0 (omega arith) (omega arith) (omega arith)
call-bytes look h = record-bytes 5 0 0 (omega arith) (omega arith) (omega arith)
call-bytes (restore bytes) h =
    All-append IsByte (bytes_of_record 6 0 (length bytes)) bytes (record-bytes 6 0 (length bytes) (omega arith) (omega arith) h.1) h.0

pub written-bytes : (cs : List Call) → All (λ c. Passable c × ImageFits c) cs → All IsByte (written_as cs)
unfolding written_as
written-bytes [] h = tt
written-bytes (c ∷ cs) h = All-append IsByte (bytes_of c) (written_as cs) (call-bytes c h.0) (written-bytes cs h.1)
