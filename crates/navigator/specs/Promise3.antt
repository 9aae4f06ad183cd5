-- Demand 3 of document 00, whole: one claim over lists of calls, about what the program does. What its calls and its save give,
-- refused ones included, is `call_stored` and `save_stored`, by the clauses `gives` of `navigator` and `answers`, `stores` and
-- `gives` of `lent`; so a list of calls on the program is a list on the machine `by_program`. Document 01's rules are the
-- machine `by_rules`.
use Rattle.std.specs.Prelude.{ℕ, ◌≤◌, ◌≡◌, ◌↔◌, true, List, length, take}
use Rattle.model.specs.Table.{affinity_of, is_single_task, table_refusal}
use Rattle.model.specs.Session.{fresh}
use Rattle.model.specs.Rules.{number_of}
use Rattle.model.specs.Image.{longest_image}
use Rattle.model.specs.Calls.{Call, start, finishing_start, back, look, chosen}
use Rattle.model.specs.Histories.{after, answers, AnswerAlike, by_rules}
use Rattle.model.specs.Promises.{Lifelong, RootOfOne}
use Rattle.model.specs.Editions.{EditionKept, NamesNoEdition}
use Rattle.session.specs.declared.Session.{Session}
use Rattle.session.specs.Stored.{fresh_session, view, hold, sound_stored}
use Rattle.calls.specs.StoredCalls.{call_stored, by_program}
use Rattle.image_calls.specs.StoredSaves.{save_stored}

module _ (tb : List ℕ) where
  -- the session that the program has after a list of calls "from a fresh session"
  abbrev pub reached : List Call → Session
  reached cs = after (by_program tb) fresh_session cs

  -- the bytes that save writes into a buffer: as many as the length that it returns, from the buffer's start
  abbrev pub bytes_saved : Session → List ℕ → List ℕ
  bytes_saved c buffer = take (save_stored tb c buffer).length (save_stored tb c buffer).buffer

-- "For every table that is not refused": tb is one. "and every list of launches, starts, finishing starts, Backs, looks and
-- restores (refused ones included, whatever bytes a restore brings)": cs and ds are any.
pub record Promise3 (tb : List ℕ) : Type 0 where
  -- "Demand 3's sessions and answers are the program's, and along every list they are those of demand 2's rules" (01): the
  -- session after each list, whole as it is stored, and all answers along it
  pub sessions : (cs : List Call) → reached tb cs ≡ hold (after (by_rules tb) fresh cs)
  pub answered : (cs : List Call) → answers (by_program tb) fresh_session cs ≡ answers (by_rules tb) fresh cs
  -- "after it each task has a screen, a single-instance screen is alone in its task, and no single-task or single-instance
  -- screen is the root of two tasks"
  pub lifelong : (cs : List Call) → Lifelong tb (view (reached tb cs))
  -- "the single-task guarantee covers these screens too" (02, request 3): a single-task screen of affinity 0 is the root of
  -- at most one task
  pub affinity_zero : (cs : List Call) (x : ℕ) → is_single_task tb x ≡ true → affinity_of tb x ≡ 0 → RootOfOne x (view (reached tb cs))
  -- "the session keeps it until empty, when it is 8 again" (02, request 4): after every list an empty session has edition 8; and
  -- of one call on any sound session, a start, a finishing start, a Back or a look, refused or not, leaves the session's edition,
  -- or 8 where it leaves no task
  pub empty_edition : (cs : List Call) → (reached tb cs).n ≡ 0 → (reached tb cs).edition ≡ 8
  pub keeps_edition : (c : Session) (k : Call) → sound_stored tb c ≡ true → NamesNoEdition k → EditionKept (view c) (view (call_stored tb c k).session)
  -- save accepts every buffer that is long enough for any session
  pub saves : (cs : List Call) (buffer : List ℕ) → longest_image ≤ length buffer → (save_stored tb (reached tb cs) buffer).refusal ≡ 0
  -- "Take any two such lists under the same table. The sessions after them have equal images exactly when every list of later
  -- launches, starts, finishing starts, Backs and looks, refused ones included, gets equal answers from both." "Images are
  -- equal when they have the same length and the same bytes": those that save writes, into whatever buffers.
  pub images_tell : (cs ds : List Call) (buffer buffer' : List ℕ) → longest_image ≤ length buffer → longest_image ≤ length buffer'
      → (bytes_saved tb (reached tb cs) buffer ≡ bytes_saved tb (reached tb ds) buffer')
      ↔ AnswerAlike (by_program tb) (reached tb cs) (reached tb ds)
  -- "two sessions of unlike edition never share an image" (02, request 4)
  pub editions_apart : (cs ds : List Call) (buffer buffer' : List ℕ) → longest_image ≤ length buffer → longest_image ≤ length buffer'
      → ((reached tb cs).edition ≡ (reached tb ds).edition → ⊥) → bytes_saved tb (reached tb cs) buffer ≡ bytes_saved tb (reached tb ds) buffer' → ⊥
  -- "Two sessions differing only in the mark must have different images and be told apart by a look" (02, request 7); and after
  -- every list an empty session has none
  pub marks_apart : (cs ds : List Call) (buffer buffer' : List ℕ) → longest_image ≤ length buffer → longest_image ≤ length buffer'
      → ((reached tb cs).no_history ≡ (reached tb ds).no_history → ⊥)
      → bytes_saved tb (reached tb cs) buffer ≡ bytes_saved tb (reached tb ds) buffer' → ⊥
  pub marks_look : (cs ds : List Call) → ((reached tb cs).no_history ≡ (reached tb ds).no_history → ⊥)
      → (call_stored tb (reached tb cs) look).answer ≡ (call_stored tb (reached tb ds) look).answer → ⊥
  pub empty_mark : (cs : List Call) → (reached tb cs).n ≡ 0 → (reached tb cs).no_history ≡ 0
  -- of one call on any session: "A plain start from a marked front is done as a finishing start .., save where R7 fits", refused or
  -- not; and of "other accepted calls clear it", that a Back does
  pub marked_start : (c : Session) (b w : ℕ) → c.no_history ≡ 1 → (number_of (chosen tb (view c) b w).rule ≡ 7 → ⊥)
      → call_stored tb c (start b w) ≡ call_stored tb c (finishing_start b w)
  pub back_clears : (c : Session) → (call_stored tb c back).answer.refusal ≡ 0 → (call_stored tb c back).session.no_history ≡ 0

-- what every contract of a call cites
abbrev pub KeepsPromise3 : List ℕ → Type 0
KeepsPromise3 tb = table_refusal tb ≡ 0 → Promise3 tb
