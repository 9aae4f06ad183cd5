-- `reasons::why` meets its contract: what is decided of the start is told.
use mathlib.Core.Path.{sym, ◌∙◌, ap}
use mathlib.Core.Bool.{false}
use Rattle.starts.proofs.LengthLaws.{sized_by}
use Rattle.checks.proofs.SharedLaws.{shared-ready}
use Rattle.reasons.specs.StoredReasons.{reason_made}
use Rattle.reasons.proofs.Reasoning.{made-why}
use Rattle.reasons.proofs.why.Goals as goal

pub decide_start-requires : goal.decide_start-requires
decide_start-requires c = λ e. shared-ready c.args.on.now.table.now c.args.on.now.session.now (sym c.args.on.now.says ∙ e)

pub returns : goal.returns
returns c =
    let a = c.args in
    c.of.ensures ∙ ap reason_made c.decide_start.ensures
    ∙ made-why a.on.now.table.now a.on.now.session.now a.b a.word (sized_by c.lengths.ensures) c.args.on.now.says false
