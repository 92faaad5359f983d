-- `Text::counted` meets its contract: its digits are put one after another. Assumes nothing.
use Rattle.schedule.proofs.PrintLaws.{◌then◌, counter-digits}
use Rattle.schedule.proofs.text.Text.counted.Goals as goal

pub returns : goal.returns
returns c =
    rw (← c.counter.view_is, counter-digits _ _ _ _ c.counter.invariant)
    (((c.digit_if.ensures then c.digit_if-2.ensures) then c.digit_if-3.ensures) then c.put.ensures)
