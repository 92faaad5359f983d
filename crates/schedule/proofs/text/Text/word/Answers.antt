-- `Text::word` meets its contract. Assumes nothing.
use Rattle.schedule.proofs.PrintLaws.{puts_more}
use Rattle.schedule.proofs.text.Text.word.Goals as goal

pub loop-byte-preserved : goal.loop-byte-preserved
loop-byte-preserved c = puts_more c.args.text.now _ c.loop-byte-test.true c.loop-byte.invariant c.put.ensures
