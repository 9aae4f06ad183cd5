-- Promise 2: a session's image is read back as that session, and what a restore accepts is the image of the sound session
-- that is read from it. So two sound sessions with one image are one session.
use Prim.Native.Nat.{ℕ, zero, suc, ◌+◌, ◌-◌, ◌*◌, ◌/◌, ◌%◌, ◌≤◌}
use mathlib.Core.Path.{◌≡◌, refl, sym, ◌∙◌, ap}
use mathlib.Core.Logic.{◌↔◌}
use mathlib.Core.Bool.{Bool, true, false, ◌&&◌, false≢true}
use mathlib.Core.List.{List, [], ◌∷◌, ◌++◌}
use native.Mathlib.Omega.{arith}
use lib.Dec.{leb}
use lib.ListN.{length, get_or, take, drop, length-append, length-drop, take-append-drop}
use lib.Seq.{take_at, drop_at, take-append_seam, drop-append_seam, length-take-le}
use borrow.Author.Tests.{le-leb, not-false}
use Rattle.std.specs.Prelude.{if◌then◌else◌}
use Rattle.model.specs.Lists.{All}
use Rattle.model.specs.Refusals.{refusal}
use Rattle.model.specs.Table.{size_of, most_screens, table_shaped, table_checks, table_refusal}
use Rattle.model.specs.Session.{Stack, State, stack, height, count, most_tasks, most_height, is_edition, sound}
use Rattle.model.specs.Image.{body_of, main_byte, trailer, image, longest_image, body_in, trailer_in, length_in, count_in, main_byte_in, edition_in, image_shaped, Reading, unreadable, read_as, read_more, read_tasks, is_readable, tasks_read, image_readable, session_in, image_checks}
use Rattle.model.specs.Histories.{IsByte}
use Rattle.model.specs.Promises.{ImagesExact}
use Rattle.model.proofs.Logic.{and-decides, leb-decides, eqb-decides, self-decides, and_right, All-map}
use Rattle.model.proofs.ListLaws.{All-append, All-drop}
use Rattle.model.proofs.Sound.{TaskSound, Sound, edition-between, sound-decides}
use Rattle.model.proofs.RuleLaws.{refusal-none}

-- what 5, 6 and 7 leave
record ImageAccepted (tb bytes : List ℕ) : Type 0 where
  shaped : image_shaped bytes ≡ true
  readable : image_readable bytes ≡ true
  soundly : sound tb (session_in bytes) ≡ true

checks-passed : (tb bytes : List ℕ) → (refusal (image_checks tb bytes) ≡ 0) ↔ ImageAccepted tb bytes
checks-passed tb bytes = (
  λ e. let h = c.0 e in record { shaped = not-false _ h.0; readable = not-false _ h.1.0; soundly = not-false _ h.1.1.0 },
  λ a. c.1 (rw a.shaped, (rw a.readable, (rw a.soundly, tt))),
)
  where
    c : (refusal (image_checks tb bytes) ≡ 0) ↔ All (λ x. x.applies ≡ false) (image_checks tb bytes)
    c = refusal-none (image_checks tb bytes) refl

-- ---- an image is read as its session

-- a body is read as its tasks
read-body : (tb : List ℕ) (ts : List (Stack ℕ)) → All (TaskSound tb) ts → read_tasks (length ts) (body_of ts) ≡ read_as ts
unfolding read_tasks
read-body tb [] h = refl
read-body tb (t ∷ ts) h =
    rw (
      take-append_seam t.screens (body_of ts),
      drop-append_seam t.screens (body_of ts),
      read-body tb ts h.1,
      le-leb 1 (height t) h.0.filled,
      le-leb (height t) most_height h.0.low,
      length-append t.screens (body_of ts),
      le-leb (height t) (height t + length (body_of ts)) (omega arith),
    )

module _ (s : State ℕ) where
  abbrev body : List ℕ
  body = body_of s.tasks

  abbrev end : List ℕ
  end = trailer (length (body_of s.tasks)) (count s) (main_byte s.main s.no_history) s.edition

  pub image-length : length (image s) ≡ length body + 6
  unfolding image
  image-length = length-append body end

  body-length : length body ≡ length (image s) - 6
  body-length = let e = image-length in omega arith

  image-body : body_in (image s) ≡ body
  unfolding image
  image-body = take_at body end (length (image s) - 6) body-length

  image-end : trailer_in (image s) ≡ end
  unfolding image
  image-end = drop_at body end (length (image s) - 6) body-length

  -- where its edition is one of the three
  image-shaped : is_edition s.edition ≡ true → image_shaped (image s) ≡ true
  unfolding image_shaped
  image-shaped known =
      rw (image-end, image-length, known)
      ((and-decides (leb-decides 6 (length body + 6)) (eqb-decides (length body + 6) (256 * (length body / 256) + length body % 256 + 6))).shows
      (omega arith, omega arith))

  module _ (tb : List ℕ) (h : Sound tb s) where
    image-read : read_tasks (count_in (image s)) (body_in (image s)) ≡ read_as s.tasks
    image-read = rw (image-end, image-body) (read-body tb s.tasks h.each)

    image-readable : image_readable (image s) ≡ true
    unfolding image_readable
    image-readable = rw (image-read, image-end, le-leb (count s) most_tasks h.few)

    -- m is below 128, so its byte is read as m and the mark
    main-low : main_byte s.main s.no_history % 128 ≡ s.main
    main-low = omega (arith, h.few, h.place.most)

    mark-high : main_byte s.main s.no_history / 128 ≡ s.no_history
    mark-high = omega (arith, h.few, h.place.most)

    image-session : session_in (image s) ≡ s
    unfolding session_in
    image-session = rw (image-read, image-end, main-low, mark-high)

-- ---- what is accepted is the image of what is read

-- the tasks read have the body that they were read from, and are as many as were asked for
body-read : (n : ℕ) (l : List ℕ) → is_readable (read_tasks n l) ≡ true
    → (body_of (tasks_read (read_tasks n l)) ≡ l) × (length (tasks_read (read_tasks n l)) ≡ n)
unfolding read_tasks
body-read zero [] e = (refl, refl)
body-read zero (x ∷ xs) e = absurd (false≢true e)
body-read (suc n) [] e = absurd (false≢true e)
body-read (suc n) (r ∷ []) e = absurd (false≢true e)
body-read (suc n) (r ∷ h ∷ l) e =
    go (leb 1 h && (leb h most_height && leb h (length l))) refl (read_tasks n (drop h l)) (body-read n (drop h l)) e
  where
    go : (b : Bool) → (leb 1 h && (leb h most_height && leb h (length l))) ≡ b → (q : Reading)
        → (is_readable q ≡ true → (body_of (tasks_read q) ≡ drop h l) × (length (tasks_read q) ≡ n))
        → is_readable (if b then read_more (stack r (take h l)) q else unreadable) ≡ true
        → (body_of (tasks_read (if b then read_more (stack r (take h l)) q else unreadable)) ≡ r ∷ h ∷ l)
        × (length (tasks_read (if b then read_more (stack r (take h l)) q else unreadable)) ≡ suc n)
    go true f unreadable ih e = absurd (false≢true e)
    go true f (read_as ts) ih e =
        let d = and-decides (leb-decides 1 h) (and-decides (leb-decides h most_height) (leb-decides h (length l))) in
        let fits : h ≤ length l = (d.holds f).1.1 in
        (rw ((ih refl).0, length-take-le h l fits, take-append-drop) refl, ap suc (ih refl).1)
    go false f q ih e = absurd (false≢true e)

six : (t : List ℕ) → length t ≡ 6 → t ≡ get_or t 0 0 ∷ get_or t 1 0 ∷ get_or t 2 0 ∷ get_or t 3 0 ∷ get_or t 4 0 ∷ get_or t 5 0 ∷ []
six [] h = absurd (omega arith)
six (a ∷ []) h = absurd (omega arith)
six (a ∷ b ∷ []) h = absurd (omega arith)
six (a ∷ b ∷ c ∷ []) h = absurd (omega arith)
six (a ∷ b ∷ c ∷ d ∷ []) h = absurd (omega arith)
six (a ∷ b ∷ c ∷ d ∷ e ∷ []) h = absurd (omega arith)
six (a ∷ b ∷ c ∷ d ∷ e ∷ f ∷ []) h = refl
six (a ∷ b ∷ c ∷ d ∷ e ∷ f ∷ g ∷ l) h = absurd (omega arith)

-- six numbers that close as a trailer does and name the length n are the trailer for n, if the low one of the two is a byte
trailer-is : (t : List ℕ) (n : ℕ) → length t ≡ 6 → get_or t 5 0 ≡ 0x42
    → 256 * get_or t 0 0 + get_or t 1 0 ≡ n → IsByte (get_or t 1 0) → trailer n (get_or t 2 0) (get_or t 3 0) (get_or t 4 0) ≡ t
trailer-is t n l f g small =
    let p : n / 256 ≡ get_or t 0 0 = omega arith in
    let q : n % 256 ≡ get_or t 1 0 = omega arith in
    rw (p, q, ← f) (sym (six t l))

byte_at : (l : List ℕ) → All IsByte l → (i : ℕ) → IsByte (get_or l i 0)
byte_at [] h i = omega arith
byte_at (x ∷ l) h zero = h.0
byte_at (x ∷ l) h (suc i) = byte_at l h.1 i

module _ (bytes : List ℕ) (small : All IsByte bytes) (shaped : image_shaped bytes ≡ true) (readable : image_readable bytes ≡ true) where
  shape : (6 ≤ length bytes)
      × (((is_edition (edition_in bytes) ≡ true) × (get_or (trailer_in bytes) 5 0 ≡ 0x42)) × (length bytes ≡ length_in bytes + 6))
  unfolding image_shaped
  shape =
      (and-decides (leb-decides 6 (length bytes))
      (and-decides (and-decides (self-decides (is_edition (edition_in bytes))) (eqb-decides (get_or (trailer_in bytes) 5 0) 0x42))
      (eqb-decides (length bytes) (length_in bytes + 6)))
      ).holds shaped

  tasks-read : (body_of (session_in bytes).tasks ≡ body_in bytes) × (count (session_in bytes) ≡ count_in bytes)
  unfolding image_readable session_in
  tasks-read =
      body-read (count_in bytes) (body_in bytes)
      (and_right (leb (count_in bytes) most_tasks) (is_readable (read_tasks (count_in bytes) (body_in bytes))) readable)

  trailer-read : trailer (length (body_in bytes)) (count_in bytes) (main_byte_in bytes) (edition_in bytes) ≡ trailer_in bytes
  trailer-read =
      let short : length bytes - 6 ≤ length bytes = omega arith in
      let named : length_in bytes ≡ length (body_in bytes) = omega (arith, length-take-le (length bytes - 6) bytes short, shape.1.1) in
      let whole : length (trailer_in bytes) ≡ 6 = omega (arith, length-drop (length bytes - 6) bytes, shape.0) in
      trailer-is (trailer_in bytes) (length (body_in bytes)) whole shape.1.0.1 named
      (byte_at (trailer_in bytes) (All-drop IsByte (length bytes - 6) bytes small) 1)

  main-read : main_byte (session_in bytes).main (session_in bytes).no_history ≡ main_byte_in bytes
  unfolding session_in
  main-read = omega arith

  edition-read : (session_in bytes).edition ≡ edition_in bytes
  unfolding session_in
  edition-read = refl

  image-of-read : image (session_in bytes) ≡ bytes
  unfolding image
  image-of-read =
      rw (tasks-read.0, tasks-read.1, main-read, edition-read)
      (ap (λ (t : List ℕ). body_in bytes ++ t) trailer-read ∙ take-append-drop (length bytes - 6) bytes)

-- ---- promise 2

module _ (tb : List ℕ) where
  -- images of sound sessions are accepted and read as those sessions, and nothing else is accepted
  pub images-exact : ImagesExact tb
  images-exact =
      record {
        accepts = λ s h.
            (checks-passed tb (image s)).1
            (record {
              shaped = image-shaped s ((sound-decides tb s).holds h).edition.known;
              readable = image-readable s tb ((sound-decides tb s).holds h);
              soundly = ap (sound tb) (brings s h) ∙ h;
            });
        brings_back = brings;
        sound_only = λ bytes e. ((checks-passed tb bytes).0 e).soundly;
        images_only = λ bytes small e. let a = (checks-passed tb bytes).0 e in image-of-read bytes small a.shaped a.readable;
      }
    where
      brings : (s : State ℕ) → sound tb s ≡ true → session_in (image s) ≡ s
      brings s h = image-session s tb ((sound-decides tb s).holds h)

  -- "Restore .. accepts exactly the images of sound sessions"
  pub accepts-exactly : (bytes : List ℕ) → All IsByte bytes
      → (refusal (image_checks tb bytes) ≡ 0) ↔ ((s : State ℕ) × (sound tb s ≡ true) × (image s ≡ bytes))
  accepts-exactly bytes small = (
    λ e. (session_in bytes, images-exact.sound_only bytes e, images-exact.images_only bytes small e),
    λ (s, h, e). rw (← e) (images-exact.accepts s h),
  )

  -- "a session's only image": two sound sessions with equal images are equal
  pub image_injective : (s t : State ℕ) → Sound tb s → Sound tb t → image s ≡ image t → s ≡ t
  image_injective s t h k e = sym (image-session s tb h) ∙ ap session_in e ∙ image-session t tb k

-- ---- how long an image is, and that it is bytes

body-short : (tb : List ℕ) (ts : List (Stack ℕ)) → All (TaskSound tb) ts → length (body_of ts) ≤ 34 * length ts
body-short tb [] h = omega arith
body-short tb (t ∷ ts) h = simp length-append (omega (arith, h.0.low, body-short tb ts h.1))

-- 16 tasks of 32 screens, each with a root and a height, and six bytes more
pub image-short : (tb : List ℕ) (s : State ℕ) → Sound tb s → length (image s) ≤ longest_image
image-short tb s h = omega (arith, image-length s, body-short tb s.tasks h.each, h.few)

few-screens : (tb : List ℕ) → table_refusal tb ≡ 0 → size_of tb ≤ most_screens
unfolding table_refusal table_shaped
few-screens tb ok =
    ((and-decides (eqb-decides (length tb) (2 + 2 * size_of tb))
    (and-decides (leb-decides 1 (size_of tb)) (leb-decides (size_of tb) most_screens))
    ).holds (not-false _ ((refusal-none (table_checks tb) refl).0 ok).0)).1.1

body_bytes : (tb : List ℕ) → size_of tb ≤ most_screens → (ts : List (Stack ℕ)) → All (TaskSound tb) ts → All IsByte (body_of ts)
body_bytes tb few [] h = tt
body_bytes tb few (t ∷ ts) h = (
  omega (arith, h.0.known),
  (
    omega (arith, h.0.low),
    All-append IsByte t.screens (body_of ts) (All-map (λ x l. omega arith) t.screens h.0.below) (body_bytes tb few ts h.1),
  ),
)

-- the image of a sound session under a good table is bytes
pub image-bytes : (tb : List ℕ) → table_refusal tb ≡ 0 → (s : State ℕ) → Sound tb s → All IsByte (image s)
unfolding image
image-bytes tb ok s h =
    let l = image-short tb s h in
    let high : IsByte (length (body s) / 256) = omega (arith, length-append (body s) (end s)) in
    let low : IsByte (length (body s) % 256) = omega arith in
    let n : IsByte (count s) = omega (arith, h.few) in
    let m : IsByte (main_byte s.main s.no_history) = omega (arith, h.few, h.place.most, h.no_history.is_mark) in
    let v : IsByte s.edition = omega (arith, (edition-between s.edition h.edition.known).1) in
    All-append IsByte (body s) (end s) (body_bytes tb (few-screens tb ok) s.tasks h.each)
    (high, (low, (n, (m, (v, (omega arith, tt))))))
