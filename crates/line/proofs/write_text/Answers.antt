-- The copy is what is written.
use Rattle.line.proofs.Copies.{copied-whole}
use Rattle.line.proofs.write_text.Goals as goal

pub returns-clause-bytes : goal.returns-clause-bytes
returns-clause-bytes c = copied-whole c.args.out.now c.args.text.now c.copy_from_slice.new.self c.args.at c.copy_from_slice.ensures.after
