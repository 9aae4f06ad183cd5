-- The records are run in the manner that tells reasons.
use Prim.Native.Nat.{◌*◌, ◌≤◌}
use mathlib.Core.Path.{◌≡◌, refl, ◌∙◌, ap}
use mathlib.Core.Bool.{Bool}
use native.Mathlib.Omega.{arith}
use lib.ListN.{length}
use Rattle.model.specs.Player.{records_in}
use Rattle.model.specs.Explained.{explained_text, longest_explained}
use Rattle.session.specs.Stored.{view}
use Rattle.play.specs.declared.Manner.{Manner}
use Rattle.play.specs.Manners.{explaining, longest_said, said_text}
use Rattle.explained.proofs.Texts.{said-reasons, longest-reasons}
use Rattle.explained.proofs.explain.Goals as goal

longest : (words : Bool) {m : Manner} → m ≡ explaining words → longest_said m ≡ longest_explained
longest words e = ap longest_said e ∙ longest-reasons words

pub run-ran-requires : goal.run-ran-requires
run-ran-requires c =
    record { playable = c.requires.playable; input_in_bounds = rw (longest c.args.words c.manner_of.ensures) c.requires.input_in_bounds }

pub returns : goal.returns
returns c =
    let a = c.args in
    let h = c.run-ran.ensures in
    let rs = records_in a.input.now in
    let e : said_text c.manner_of.result a.table.now (view a.from) rs ≡ explained_text a.words a.table.now (view a.from) rs =
    ap (λ (m : Manner). said_text m a.table.now (view a.from) rs) c.manner_of.ensures ∙ said-reasons a.words a.table.now rs (view a.from) in
    let b : c.run-ran.result.written ≤ longest_explained * length rs = rw (longest a.words c.manner_of.ensures) at h.bound in
    record {
      session = h.session;
      used = refl;
      written = rw (← e) h.written;
      text = rw (← e) h.text;
      keeps = h.keeps;
      bound = omega (arith, c.requires.input_in_bounds);
    }
