-- `session::Session::is_edition` meets its contract.
use mathlib.Core.Path.{refl}
use Rattle.model.specs.Session.{is_edition}
use Rattle.session.proofs.Session.is_edition.Goals as goal

pub returns : goal.returns
unfolding is_edition
returns c = refl
