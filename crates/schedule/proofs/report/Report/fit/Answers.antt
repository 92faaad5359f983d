-- `Report::fit` meets its contract: where there may be too little room, an empty buffer tells how long the text is. Assumes
-- nothing.
use native.Mathlib.Omega.{arith}
use Prim.Native.Nat.{◌≤◌}
use lib.ListN.{length}
use Rattle.std.proofs.Common.{rules}
use Rattle.delivery.specs.Limits.{limits}
use Rattle.schedule.specs.Private.{report_text}
use Rattle.schedule.proofs.PrintLaws.{report-short, report-written, buffer-short}
use Rattle.schedule.proofs.report.Report.fit.Goals.{then-out-lt-LONGEST+else-needed-out, else-out-lt-LONGEST}
use Rattle.schedule.proofs.report.Report.fit.Goals as goal

pub returns-then-needed-out-clause-answer : goal.returns-then-needed-out-clause-answer
returns-then-needed-out-clause-answer c =
    report-short (length c.args.out.now) c.if-needed-out.true c.put-needed.ensures.text

pub returns-then-needed-out-clause-buffer : goal.returns-then-needed-out-clause-buffer
returns-then-needed-out-clause-buffer c =
    buffer-short _ c.args.out.now (omega (arith, c.put-needed.ensures.text.place, c.if-needed-out.true))

pub returns : goal.returns
returns c =
    let text = report_text limits c.args.report.now in
    let room : length text ≤ length c.args.out.now = elim c.if-out-lt-LONGEST.branch [
      | then-out-lt-LONGEST+else-needed-out w ↦ omega (arith, w.put-needed.ensures.text.place, w.if-needed-out.false)
      | else-out-lt-LONGEST w ↦ omega (arith, c.put.ensures.within, c.put.ensures.text.place, w.if-out-lt-LONGEST.false)
    ] in
    let w = report-written room c.put.ensures.text in
    record { answer = w.0; buffer = w.1; within = search rules; fits = search rules }
