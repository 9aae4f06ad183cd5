-- What writing an image relies on.
use Rattle.std.specs.Prelude.{◌<◌, ◌≤◌, ◌≡◌, true}
use Rattle.model.specs.Session.{is_edition}
use Rattle.session.specs.declared.Session.{Session}
use Rattle.session.specs.Stored.{storage_blank}

-- 0 stands beyond the tasks and their screens, the edition is one of the three, and m and the No-History mark share a byte
pub record Writable (c : Session) : Type 0 where
  pub blank : storage_blank c ≡ true
  pub edition : is_edition c.edition ≡ true
  pub main : c.main < 128
  pub mark : c.no_history ≤ 1
