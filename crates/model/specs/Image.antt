-- Document 01, "Image", and refusals 5, 6 and 7; "the image carries" the edition "in the byte that was 8" (02,
-- request 4), and the No-History mark in "bit 7 of the image's m byte" (02, request 7).
use Rattle.std.specs.Prelude.{ℕ, zero, suc, ◌+◌, ◌-◌, ◌*◌, ◌/◌, ◌%◌, Bool, true, false, not, ◌&&◌, List, [], ◌∷◌, ◌++◌, leb, eqb, length, get_or, take, drop, if◌then◌else◌}
use Rattle.model.specs.Refusals.{Check, check}
use Rattle.model.specs.Session.{Stack, State, stack, state, height, count, most_tasks, most_height, is_edition, sound}

-- "For each task, front first: root, height, screens top first."
abbrev pub body_of : List (Stack ℕ) → List ℕ
body_of [] = []
body_of (t ∷ ts) = t.root ∷ height t ∷ (t.screens ++ body_of ts)

-- "8, hex 42", where 8 was the edition
abbrev pub closing : ℕ → List ℕ
closing e = e ∷ 0x42 ∷ []

-- m, with the mark h for "bit 7 of the image's m byte": the other seven bits are m
abbrev pub main_byte : ℕ → ℕ → ℕ
main_byte m h = m + 128 * h

-- "Then six trailer bytes pointing back: the length L of all that precedes (2 bytes, high first), n, m, 8, hex 42."
-- Here x is the m byte.
abbrev pub trailer : ℕ → ℕ → ℕ → ℕ → List ℕ
trailer l n x e = l / 256 ∷ l % 256 ∷ n ∷ x ∷ closing e

unfoldable pub image : State ℕ → List ℕ
image s = body_of s.tasks ++ trailer (length (body_of s.tasks)) (count s) (main_byte s.main s.no_history) s.edition

-- as long as an image of 16 tasks of 32 screens, which no sound session's image passes
abbrev pub longest_image : ℕ
longest_image = most_tasks * (2 + most_height) + 6

-- an image taken apart: what precedes the last six bytes, and those six
abbrev pub body_in : List ℕ → List ℕ
body_in bytes = take (length bytes - 6) bytes

abbrev pub trailer_in : List ℕ → List ℕ
trailer_in bytes = drop (length bytes - 6) bytes

abbrev pub length_in : List ℕ → ℕ
length_in bytes = 256 * get_or (trailer_in bytes) 0 0 + get_or (trailer_in bytes) 1 0

abbrev pub count_in : List ℕ → ℕ
count_in bytes = get_or (trailer_in bytes) 2 0

abbrev pub main_byte_in : List ℕ → ℕ
main_byte_in bytes = get_or (trailer_in bytes) 3 0

abbrev pub main_in : List ℕ → ℕ
main_in bytes = main_byte_in bytes % 128

abbrev pub no_history_in : List ℕ → ℕ
no_history_in bytes = main_byte_in bytes / 128

abbrev pub edition_in : List ℕ → ℕ
edition_in bytes = get_or (trailer_in bytes) 4 0

-- not "5: restore: under 6 bytes, last two bytes not hex 08 42, or length not L + 6", where hex 08 is any edition now: "restore gives
-- 5 when the byte is none of the three" (02, request 4)
unfoldable pub image_shaped : List ℕ → Bool
image_shaped bytes =
    leb 6 (length bytes)
    && ((is_edition (edition_in bytes) && eqb (get_or (trailer_in bytes) 5 0) 0x42)
    && eqb (length bytes) (length_in bytes + 6))

-- the tasks read from a body, or that they cannot be read
pub data Reading : Type 0 where
  unreadable : Reading
  read_as : List (Stack ℕ) → Reading

-- one task more in front of those read
abbrev pub read_more : Stack ℕ → Reading → Reading
read_more t unreadable = unreadable
read_more t (read_as ts) = read_as (t ∷ ts)

-- "exactly n tasks of height 1 to 32"
unfoldable pub read_tasks : ℕ → List ℕ → Reading
read_tasks zero [] = read_as []
read_tasks zero (x ∷ xs) = unreadable
read_tasks (suc n) [] = unreadable
read_tasks (suc n) (r ∷ []) = unreadable
read_tasks (suc n) (r ∷ h ∷ l) =
    if leb 1 h && (leb h most_height && leb h (length l)) then read_more (stack r (take h l)) (read_tasks n (drop h l))
    else unreadable

abbrev pub is_readable : Reading → Bool
is_readable unreadable = false
is_readable (read_as ts) = true

abbrev pub tasks_read : Reading → List (Stack ℕ)
tasks_read unreadable = []
tasks_read (read_as ts) = ts

-- not "6: restore: n above 16, or the L bytes are not exactly n tasks of height 1 to 32"
unfoldable pub image_readable : List ℕ → Bool
image_readable bytes = leb (count_in bytes) most_tasks && is_readable (read_tasks (count_in bytes) (body_in bytes))

-- "the session read from the image"
unfoldable pub session_in : List ℕ → State ℕ
session_in bytes = state (tasks_read (read_tasks (count_in bytes) (body_in bytes))) (main_in bytes) (edition_in bytes) (no_history_in bytes)

-- 5, 6, and "7: restore: the session read from the image is not sound under the table"
abbrev pub image_checks : List ℕ → List ℕ → List Check
image_checks tb bytes =
    check 5 (not (image_shaped bytes)) ∷ check 6 (not (image_readable bytes))
    ∷ check 7 (not (sound tb (session_in bytes))) ∷ []
