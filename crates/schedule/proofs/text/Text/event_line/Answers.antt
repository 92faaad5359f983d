-- `Text::event_line` meets its contract: its words are put one after another. Assumes nothing.
use Rattle.schedule.specs.Prints.{event_line}
use Rattle.schedule.proofs.PrintLaws.{◌then◌}
use Rattle.schedule.proofs.text.Text.event_line.Goals as goal

pub returns : goal.returns
unfolding event_line
returns c = c.counted.ensures then c.put.ensures then c.number.ensures then c.put-2.ensures
