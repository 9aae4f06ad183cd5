-- What closing a screen, and closing the marked one, rely on; nothing of it is checked again.
use Prim.Native.Nat.{ℕ}
use mathlib.Core.Path.{◌≡◌}
use mathlib.Core.Bool.{Bool, true}
use Rattle.model.specs.declared.Effect.{Effect}
use Rattle.model.specs.Marks.{mark_after, stands_at}
use Rattle.model.proofs.MarkStands.{Stands}
use Rattle.session.specs.declared.Session.{Session}
use Rattle.session.specs.Stored.{view, storage_blank}

-- a screen stands behind k tasks and below i screens
pub record Closable (s : Session) (k i : ℕ) : Type 0 where
  pub blank : storage_blank s ≡ true
  pub there : Stands (stands_at k i) (view s)

-- the marked screen stands where its mark says, or it is gone
pub record Markable (s : Session) (d : Effect) (p : ℕ) (is_b : Bool) : Type 0 where
  pub blank : storage_blank s ≡ true
  pub marked : Stands (mark_after d p is_b) (view s)
