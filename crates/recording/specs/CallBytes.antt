-- A list of calls as bytes. Kinds 1 to 5 are the player's records (document 01, "Player"); kind 6 is a restore, whose word is
-- the length of an image, and the image's bytes follow. Every byte string reads as some list of calls.
use Rattle.std.specs.Prelude.{ℕ, zero, suc, ◌+◌, Bool, List, [], ◌∷◌, ◌++◌, leb, eqb, length, get_or, take, drop, if◌then◌else◌}
use Rattle.model.specs.Calls.{Call, restore}
use Rattle.model.specs.Player.{Request, unplayable, asks, request_of, word_of}

abbrev pub restore_kind : ℕ
restore_kind = 6

-- how many bytes of an image follow a record
unfoldable pub image_length : ℕ → ℕ → ℕ
image_length kind w = if eqb kind restore_kind then w else 0

-- the call that a record asks for; an unknown kind is no call
abbrev pub call_asked : Request → List Call
call_asked unplayable = []
call_asked (asks c) = c ∷ []

-- the call of a whole record, with the image that follows it
unfoldable pub call_of : ℕ → ℕ → ℕ → List ℕ → List Call
call_of kind b w bytes = if eqb kind restore_kind then restore bytes ∷ [] else call_asked (request_of kind b w)

-- of the first record in the bytes: its word, how many bytes of an image follow it, and the call of both
abbrev pub first_word : List ℕ → ℕ
first_word bytes = word_of (get_or bytes 2 0) (get_or bytes 3 0) (get_or bytes 4 0) (get_or bytes 5 0)

abbrev pub first_image : List ℕ → ℕ
first_image bytes = image_length (get_or bytes 0 0) (first_word bytes)

abbrev pub first_call : List ℕ → List Call
first_call bytes = call_of (get_or bytes 0 0) (get_or bytes 1 0) (first_word bytes) (take (first_image bytes) (drop 6 bytes))

-- the call of these bytes, which are a whole record and the image that follows it
abbrev pub call_read : List ℕ → List Call
call_read bytes = call_of (get_or bytes 0 0) (get_or bytes 1 0) (first_word bytes) (drop 6 bytes)

-- it is whole: not cut to fewer than six bytes, or to fewer bytes of an image than its length says
abbrev pub first_whole : List ℕ → Bool
first_whole bytes = leb (6 + first_image bytes) (length bytes)

-- the calls of the first n records. A cut record is no call and ends the list.
unfoldable pub first_calls : ℕ → List ℕ → List Call
first_calls zero bytes = []
first_calls (suc n) bytes =
    if first_whole bytes then first_call bytes ++ first_calls n (drop (6 + first_image bytes) bytes) else []

-- the calls of all records, which are not more than the bytes
abbrev pub calls_in : List ℕ → List Call
calls_in bytes = first_calls (length bytes) bytes
