-- Six stores one after the other are the bytes written.
use mathlib.Core.Path.{refl}
use native.Mathlib.Numerals.{towards_suc}
use native.Mathlib.Omega.{arith}
use Rattle.model.specs.Image.{trailer}
use Rattle.model.proofs.Sound.{edition-between}
use Rattle.model.proofs.WrittenLaws.{written-sets}
use Rattle.image.proofs.Closing.{pair-at}
use Rattle.image.proofs.write_trailer.Goals as goal

-- the edition is 6, 7 or 8
pub overflow_sub-place : goal.overflow_sub-place
overflow_sub-place c = let b = edition-between c.args.edition c.requires.1.1 in omega arith

pub bounds-place : goal.bounds-place
bounds-place c = let b = edition-between c.args.edition c.requires.1.1 in omega arith

pub bounds-place-2 : goal.bounds-place-2
bounds-place-2 c = let b = edition-between c.args.edition c.requires.1.1 in omega arith

pub returns : goal.returns
returns c =
    let a = c.args in
    let p = pair-at a.edition c.requires.1.1 a.edition refl in
    let w = written-sets a.out.now a.at (trailer a.at a.n a.main a.edition) (omega arith) in
    record { place = refl; bytes = rw (p.0, p.1) (simp towards_suc w) }
