-- `Report::write` meets its contract: a refused file has the text of its fault. Assumes nothing.
use mathlib.Core.Path.{sym, ◌∙◌}
use Rattle.schedule.proofs.ClaimLaws.{reporting}
use Rattle.schedule.proofs.PlayLaws.{print-refused}
use Rattle.schedule.proofs.report.Report.write.Goals as goal

pub play-requires : goal.play-requires
play-requires c = sym c.read.ensures.meaning ∙ c.in-Ok.is

pub returns-in-Ok : goal.returns-in-Ok
returns-in-Ok c =
    let p = c.play.ensures in
    record { answer = p.answer; buffer = p.buffer; within = p.within; fits = p.fits; reports = reporting c.args.file.now }

pub returns-in-Err : goal.returns-in-Err
returns-in-Err c =
    let text = print-refused c.args.file.now c.in-Err.fault (sym c.read.ensures.meaning ∙ c.in-Err.is) in
    record {
      answer = rw (← text) c.fit.ensures.answer;
      buffer = rw (← text) c.fit.ensures.buffer;
      within = rw (← text) c.fit.ensures.within;
      fits = c.fit.ensures.fits;
      reports = reporting c.args.file.now;
    }
