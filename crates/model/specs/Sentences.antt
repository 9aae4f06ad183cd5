-- One plain sentence for each number that a reason tells, as agents read it (document 02, request 1).
use Rattle.std.specs.Prelude.{ℕ, List, [], ◌∷◌, eqb, get_or, if◌then◌else◌}
use Prim.Native.String.{String}
use Rattle.model.specs.declared.Reason.{Reason}
use Rattle.model.specs.Texts.{ascii}

-- the sentences of R1 to R18, each behind as many others as its number says
abbrev pub rule_sentences : List String
rule_sentences =
    ""
    ∷ "the single-instance screen has its task: that task comes to the front"
    ∷ "the single-instance screen has no task: a new task of it alone comes to the front"
    ∷ "a task found for the single-task screen is cleared: it comes to the front, all in it closes, and the screen opens in it"
    ∷ "a task found for it holds the screen: it comes to the front, and what lay above the screen closes"
    ∷ "a task found for it does not hold the screen: it comes to the front, and the screen opens on top"
    ∷ "no task is found for the single-task screen: a new task of it alone comes to the front"
    ∷ "the screen is in front already: the start moves nothing"
    ∷ "the front task holds the screen, and CLEAR_TOP is set: what lay above the screen closes"
    ∷ "the front task holds the screen, and REORDER_TO_FRONT is set: it comes to the top; edition 7 empties a main task first"
    ∷ "the screen opens on top of the front task"
    ∷ "MULTIPLE_TASK is set: a new task of the screen alone comes to the front"
    ∷ "a task is found for it, and CLEAR_TASK is set: it comes to the front, all in it closes, and the screen opens in it"
    ∷ "a task found for it holds the screen, and CLEAR_TOP is set: it comes to the front, and what lay above the screen closes"
    ∷ "a task found for it does not hold the screen, and CLEAR_TOP is set: it comes to the front, and the screen opens on top"
    ∷ "a task that began with the screen is found, and is not the main one: it comes to the front as it is"
    ∷ "a task found for it has the screen on top already: it comes to the front as it is"
    ∷ "a task is found for it: it comes to the front, and the screen opens on top"
    ∷ "no task is found for it: a new task of the screen alone comes to the front"
    ∷ []

-- no sentence for another number
unfoldable pub rule_sentence : ℕ → List ℕ
rule_sentence n = ascii (get_or rule_sentences n "")

-- the refusals of a start record; no sentence for another number
unfoldable pub refusal_sentence : ℕ → List ℕ
refusal_sentence k =
    ascii (
    if eqb k 1 then "refusal 1: the table's length does not fit its number of screens, or that is not 1 to 64" else
    if eqb k 2 then "refusal 2: the table's main screen is not one of its screens, or a launch mode is not 0 to 3" else
    if eqb k 3 then "refusal 3: a start names a screen that the table does not have" else
    if eqb k 4 then "refusal 4: a start's flag word has a bit that is none of the seven flags" else
    if eqb k 9 then "refusal 9: the record is of an unknown kind, or the recording ends within it" else
    if eqb k 20 then "refusal 20: the session cannot be under this table, its edition is none of 6, 7 and 8, its mark is above 1, or it is empty and has another edition than 8 or the mark" else
    if eqb k 21 then "refusal 21: a start or Back, and no task is there" else
    if eqb k 23 then "refusal 23: a new task is needed, and 16 stand" else
    if eqb k 24 then "refusal 24: a screen is to be pushed onto a task of 32" else ""
    )

-- why a start was refused, or what its rule did
unfoldable pub sentence_of : Reason → List ℕ
sentence_of r = if eqb r.refusal 0 then rule_sentence r.rule else refusal_sentence r.refusal

-- no sentence is longer
abbrev pub longest_sentence : ℕ
longest_sentence = 165
