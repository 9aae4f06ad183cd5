-- A sound session can be written.
use mathlib.Core.Path.{◌≡◌}
use mathlib.Core.Bool.{true}
use mathlib.Core.List.{List}
use Prim.Native.Nat.{ℕ}
use native.Mathlib.Omega.{arith}
use Rattle.session.specs.declared.Session.{Session}
use Rattle.session.specs.Stored.{view, sound_stored}
use Rattle.session.proofs.StoredLaws.{sound-blank, sound-view}
use Rattle.image.specs.Writable.{Writable}

pub sound-writable : (tb : List ℕ) (c : Session) → sound_stored tb c ≡ true → Writable c
unfolding view
sound-writable tb c e =
    let h = sound-view tb c e in
    record {
      blank = sound-blank tb c e;
      edition = h.edition.known;
      main = omega (arith, h.few, h.place.most);
      mark = h.no_history.is_mark;
    }
