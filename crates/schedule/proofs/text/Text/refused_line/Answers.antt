-- `Text::refused_line` meets its contract: its words are put one after another. Assumes nothing.
use Rattle.schedule.specs.Prints.{refused_line}
use Rattle.schedule.proofs.PrintLaws.{◌then◌}
use Rattle.schedule.proofs.text.Text.refused_line.Goals as goal

pub returns : goal.returns
unfolding refused_line
returns c = c.word.ensures then c.put.ensures then (rw c.number.ensures at c.number-2.ensures) then c.put-2.ensures
