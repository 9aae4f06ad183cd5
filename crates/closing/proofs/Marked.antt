-- The marked screen's position where its mark is known.
use Prim.Native.Nat.{ℕ}
use mathlib.Core.Path.{◌≡◌, sym, ◌∙◌, ap, subst}
use mathlib.Core.Bool.{true}
use Rattle.model.specs.declared.Position.{Position}
use Rattle.std.specs.Prelude.{Option, None}
use Rattle.model.specs.Session.{State}
use Rattle.model.specs.Marks.{stands_at}
use Rattle.model.proofs.Marks.{close_at}
use Rattle.model.proofs.MarkStands.{Stands}
use Rattle.session.specs.declared.Session.{Session}
use Rattle.session.specs.Stored.{view, hold, storage_blank}
use Rattle.session.proofs.Known.{Sized}
use Rattle.session.proofs.StoredLaws.{held}
use Rattle.closing.proofs.Closable.{Closable}

marked-at : (v : State ℕ) {m n : Option Position} → m ≡ n → Stands m v → Stands n v
marked-at v e h = subst (λ (k : Option Position). Stands k v) e h

pub closable : (s : Session) (k i : ℕ) {m : Option Position} → storage_blank s ≡ true → m ≡ stands_at k i → Stands m (view s) → Closable s k i
closable s k i b e h = record { blank = b; there = marked-at (view s) e h }

pub closed_at : (v : State ℕ) {m n : Option Position} → m ≡ n → hold (close_at n v) ≡ hold (close_at m v)
closed_at v e = ap (λ (k : Option Position). hold (close_at k v)) (sym e)

pub closed-gone : (s : Session) → Sized s → storage_blank s ≡ true → {m : Option Position} → m ≡ None → s ≡ hold (close_at m (view s))
closed-gone s z b e = sym (held s z b) ∙ closed_at (view s) e
