-- `Text::board_line` meets its contract: its words are put one after another. Assumes nothing.
use Rattle.schedule.specs.Prints.{board_line}
use Rattle.schedule.proofs.PrintLaws.{◌then◌}
use Rattle.schedule.proofs.text.Text.board_line.Goals as goal

pub returns : goal.returns
unfolding board_line
returns c =
    c.number.ensures then c.put.ensures then (rw c.byte.ensures at c.put-2.ensures) then c.put-3.ensures
    then c.number-2.ensures then c.put-4.ensures then c.number-3.ensures then c.put-5.ensures
