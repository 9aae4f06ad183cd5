-- Blocks of whole records join to the whole.
use Prim.Native.Nat.{ℕ}
use mathlib.Core.Path.{◌≡◌, refl, sym, ◌∙◌, ap}
use mathlib.Core.Bool.{Bool, true}
use mathlib.Core.List.{List, [], ◌∷◌, ◌++◌, append-nil, flatten}
use Rattle.model.specs.Session.{State, fresh}
use Rattle.model.specs.Player.{records_in, session_after, starts_with_table, table_in, record_bytes}
use Rattle.model.specs.Explained.{explained_text, explain_text}
use Rattle.play.specs.Blocks.{WholeBlocks}
use Rattle.play.proofs.BlockLaws.{records-append}
use Rattle.explained.specs.Blocks.{explained_blocks, ExplainedJoin}
use Rattle.explained.proofs.Texts.{explained-append}

blocks-text : (words : Bool) (tb : List ℕ) (s : State ℕ) (bs : List (List ℕ)) → WholeBlocks bs
    → explained_text words tb s (records_in (flatten bs)) ≡ explained_blocks words tb s bs
unfolding WholeBlocks explained_blocks flatten explained_text records_in
blocks-text words tb s [] h = refl
blocks-text words tb s (b ∷ []) h =
    ap (λ (l : List ℕ). explained_text words tb s (records_in l)) (append-nil b) ∙ sym (append-nil (explained_text words tb s (records_in b)))
blocks-text words tb s (b ∷ c ∷ bs) h =
    ap (explained_text words tb s) (records-append b (flatten (c ∷ bs)) h.0)
    ∙ explained-append words tb (records_in b) (records_in (flatten (c ∷ bs))) s
    ∙ ap (λ (l : List ℕ). explained_text words tb s (records_in b) ++ l) (blocks-text words tb (session_after tb s (records_in b)) (c ∷ bs) h.1)

blocks-whole : (words : Bool) (input : List ℕ) → starts_with_table input ≡ true → (bs : List (List ℕ)) → WholeBlocks bs
    → flatten bs ≡ record_bytes input → explain_text words input ≡ explained_blocks words (table_in input) fresh bs
unfolding explain_text
blocks-whole words input t bs h e =
    rw t (ap (λ (l : List ℕ). explained_text words (table_in input) fresh (records_in l)) (sym e) ∙ blocks-text words (table_in input) fresh bs h)

pub explained-join : ExplainedJoin
explained-join = record { text = blocks-text; whole = blocks-whole }
