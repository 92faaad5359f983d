-- The loop's invariant of `Text::word`: the first bytes are put.
use lib.ListN.{take}
use Rattle.schedule.specs.Private.{Puts}
use Rattle.schedule.proofs.text.Text.word.Given as goal

abbrev pub invariant-loop-byte : goal.invariant-loop-byte
invariant-loop-byte l = Puts (take l.byte-index l.text) l.fn.self.out l.fn.self.length l.self.out l.self.length
