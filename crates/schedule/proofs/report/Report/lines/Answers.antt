-- `Report::lines` meets its contract. Assumes nothing.
use Prim.Native.Nat.{◌+◌, ◌-◌, ◌≤◌}
use native.Mathlib.Omega.{arith}
use mathlib.Core.Path.{◌≡◌, refl}
use mathlib.Core.List.{[]}
use lib.ListN.{length, get_or}
use Rattle.signer.specs.FromOne.{nth}
use Rattle.signer.proofs.FromOneLaws.{nth_after}
use Rattle.delivery.specs.Limits.{limits}
use Rattle.bench.specs.Shows.{shown}
use Rattle.schedule.specs.Prints.{event_line, event_line_bytes, board_line, board_line_bytes}
use Rattle.schedule.proofs.PrintLaws.{◌then◌, event-within, board-within, parts_none, parts_then}
use Rattle.schedule.proofs.report.Report.lines.Goals as goal

pub loop-answer-init : goal.loop-answer-init
loop-answer-init c =
    record { number = omega arith; short = omega arith; put = rw c.requires.start (parts_none _) }

pub loop-answer-preserved : goal.loop-answer-preserved
loop-answer-preserved c =
    let k = c.loop-answer.answer-index in
    let played = c.args.self.now in
    let answer = get_or played.answers.now k 0 in
    let within : length (event_line (k + 1) answer) ≤ event_line_bytes = grind (arith, event-within) in
    let number : c.next.new.self ≡ k + 1 = omega arith in
    let line = rw number at c.event_line.ensures in
    record {
      number = number;
      short = omega (arith, within, line.text.place);
      put = parts_then [] (λ j. event_line j (nth played.answers.now j 0)) (k + 1) k refl c.loop-answer.invariant.put
          (rw (nth_after played.answers.now k 0) line);
    }

pub loop-k-init : goal.loop-k-init
loop-k-init c =
    let played = c.args.self.now in
    let end : c.loop-answer.answer-index ≡ length played.answers.now = omega arith in
    record {
      more = omega arith;
      short = omega (arith, end);
      put = (rw end at c.loop-answer.invariant.put) then parts_none _;
    }

pub loop-k-preserved : goal.loop-k-preserved
loop-k-preserved c =
    let k = c.loop-k.k in
    let played = c.args.self.now in
    let line = c.shown.result in
    let within : length (board_line k line) ≤ board_line_bytes = grind (arith, board-within) in
    let last : k + 1 - 1 ≡ k = omega arith in
    record {
      more = omega arith;
      short = omega (arith, within);
      put = rw last (parts_then _ (λ j. board_line j (shown limits played.bench.now j)) k (k - 1) (omega arith) c.loop-k.invariant.put (rw c.shown.ensures at c.board_line.ensures));
    }

pub returns-clause-lines : goal.returns-clause-lines
returns-clause-lines c = let end : c.loop-k.k - 1 ≡ c.args.self.now.n = omega arith in rw end at c.loop-k.invariant.put

pub returns-2-clause-lines : goal.returns-2-clause-lines
returns-2-clause-lines c =
    let k = c.loop-k.k in
    let played = c.args.self.now in
    let end : k ≡ played.n = omega arith in
    rw (← end) (parts_then _ (λ j. board_line j (shown limits played.bench.now j)) k (k - 1) (omega arith) c.loop-k.invariant.put (rw c.shown.ensures at c.board_line.ensures))
