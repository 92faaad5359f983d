-- The loops' invariants of `Report::lines`: the lines of the first events, and then of the first boards, are put, each of
-- them within its most bytes; the counter has the number of the last event's line.
use Prim.Native.Nat.{◌+◌, ◌-◌, ◌*◌, ◌≤◌}
use mathlib.Core.Path.{◌≡◌}
use mathlib.Core.List.{◌++◌}
use lib.ListN.{length}
use Rattle.delivery.specs.Limits.{limits}
use Rattle.schedule.specs.Files.{most_events}
use Rattle.schedule.specs.Prints.{event_lines, board_lines, event_line_bytes, board_line_bytes}
use Rattle.schedule.specs.Private.{Puts}
use Rattle.schedule.proofs.report.Report.lines.Given as goal

abbrev pub invariant-loop-answer : goal.invariant-loop-answer
invariant-loop-answer l = record {
  number : l.number ≡ l.answer-index;
  short : l.text.length ≤ event_line_bytes * l.answer-index;
  put : Puts (event_lines l.answer-index l.self.answers.now) l.fn.text.out 0 l.text.out l.text.length;
}

abbrev pub invariant-loop-k : goal.invariant-loop-k
invariant-loop-k l = record {
  more : l.k ≤ l.self.n + 1;
  short : l.text.length ≤ event_line_bytes * most_events + board_line_bytes * (l.k - 1);
  put : Puts (event_lines (length l.self.answers.now) l.self.answers.now ++ board_lines limits (l.k - 1) l.self.bench.now)
      l.fn.text.out 0 l.text.out l.text.length;
}
