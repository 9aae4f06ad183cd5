-- Two stores, and the bytes of the word copied behind them, are the bytes written.
use Prim.Native.Nat.{ℕ, ◌+◌, ◌-◌, ◌/◌, ◌%◌}
use mathlib.Core.Path.{◌≡◌, sym, ◌∙◌}
use mathlib.Core.List.{List, append_assoc, ◌∷◌}
use native.Mathlib.Omega.{arith}
use lib.ListN.{length, take, drop, set, length-set}
use lib.Seq.{drop-drop}
use borrow.Rule.Slice.PartMut.{put_mid}
use Rattle.model.specs.Written.{written}
use Rattle.model.proofs.WrittenLaws.{written-cons}
use Rattle.records.specs.Records.{word_bytes}
use Rattle.records.proofs.write.Goals as goal

-- bytes that fill a part of the buffer
part-written : (d : List ℕ) (p end : ℕ) (bytes : List ℕ) → end ≡ p + length bytes → put_mid p (end - p) d bytes ≡ written d p bytes
unfolding written
part-written d p end bytes e =
    let k : end - p ≡ length bytes = omega arith in
    rw (k, drop-drop (length bytes) p d) (sym (append_assoc (take p d) bytes (drop (p + length bytes) d)))

pub returns-clause-bytes : goal.returns-clause-bytes
returns-clause-bytes c =
    let a = c.args in
    let d = a.out.now in
    let high : a.word / 0x1000000 % 0x100 ≡ a.word / 0x1000000 = omega arith in
    let copied = c.copy_from_slice.ensures.after ∙ c.to_be_bytes.ensures in
    let bytes : c.copy_from_slice.new.self ≡ word_bytes a.word = rw high at copied in
    rw bytes (part-written (set (set d a.at a.kind) (a.at + 1) a.screen) (a.at + 2) (a.at + 6) (word_bytes a.word) (omega arith))
    ∙ written-cons (set d a.at a.kind) (a.at + 1) a.screen (word_bytes a.word) {next = a.at + 2} (omega arith) (omega (arith, length-set d a.at a.kind))
    ∙ written-cons d a.at a.kind (a.screen ∷ word_bytes a.word) {next = a.at + 1} (omega arith) (omega arith)
