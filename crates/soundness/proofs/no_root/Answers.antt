-- The chain tests each root: the definition's test, place by place.
use mathlib.Core.Bool.{not}
use borrow.Author.Rules.{rules}
use borrow.Author.Tests.{eq-eqb, ne_eqb, not-true}
use Rattle.std.specs.Prelude.{◌↔◌, ◌≢◌, IsTrue, EachIndex, slice_index}
use mathlib.Core.Path.{ap}
use Rattle.model.proofs.Logic.{same_test, contradiction}
use Rattle.model.proofs.Walks.{all-at}
use Rattle.soundness.specs.Tests.{other_root}
use Rattle.soundness.proofs.Places.{all_from}
use Rattle.soundness.proofs.no_root.Goals as goal

pub returns : goal.returns
unfolding other_root
returns c =
    let xs = c.args.roots.now in
    let b = c.args.b in
    let e : IsTrue c.all.result ↔ EachIndex xs (λ k. b ≢ slice_index xs k) = search rules in
    same_test (record { holds = e.0; shows = e.1 })
    (record {
      holds = λ h k l q. contradiction (eq-eqb b _ q) (not-true _ (all-at (other_root b) xs k 0 l h));
      shows = λ f. all_from (other_root b) 0 xs (λ k l. ap not (ne_eqb b _ (f k l)));
    })
