-- Cut before its six bytes or in its image, or whole.
use native.Mathlib.Omega.{arith}
use Rattle.recording.proofs.OneCall.{record-cut, record-whole}
use Rattle.recording.proofs.whole_length.Goals as goal

pub returns-then-calls-lt6 : goal.returns-then-calls-lt6
returns-then-calls-lt6 c = record-cut c.args.calls.now (omega arith)

pub returns-then-n-calls : goal.returns-then-n-calls
returns-then-n-calls c = record-cut c.args.calls.now (omega arith)

pub returns : goal.returns
returns c = (record-whole c.args.calls.now (omega arith), omega arith)
