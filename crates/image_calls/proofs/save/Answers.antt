-- `image_calls::save` meets its contract: refused by 8 before a byte is written, or the image at the start of the buffer.
use mathlib.Core.Path.{sym}
use native.Mathlib.Omega.{arith}
use Rattle.session.proofs.StoredLaws.{sound-blank}
use Rattle.image.proofs.Writables.{sound-writable}
use Rattle.image_calls.proofs.Saving.{save-short, save-fits}
use Rattle.image_calls.proofs.save.Goals as goal

pub length-requires : goal.length-requires
length-requires c = sound-blank c.args.table.now c.args.s c.requires.sound

pub returns-then-out-length : goal.returns-then-out-length
returns-then-out-length c =
    let a = c.args in
    let e = save-short a.table.now a.s a.out.now c.requires (omega arith) in
    rw (c.refuse_save.ensures, c.number.ensures) (sym e)

pub write-requires : goal.write-requires
write-requires c =
    (sound-writable c.args.table.now c.args.s c.requires.sound, omega arith)

pub returns : goal.returns
returns c =
    let a = c.args in
    let e = save-fits a.table.now a.s a.out.now c.requires (omega arith) in
    rw (c.write.ensures.length, c.write.ensures.bytes) (sym e)
