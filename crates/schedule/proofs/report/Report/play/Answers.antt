-- `Report::play` meets its contract: what the player gives is what the file prints. Assumes nothing.
use native.Mathlib.Omega.{arith}
use borrow.Author.Rules.{part_to_end}
use lib.ListN.{replicate, length, take}
use mathlib.Core.Path.{◌≡◌, ap, ◌∙◌}
use Rattle.std.specs.Prelude.{◌≤◌}
use Rattle.std.proofs.lemmas.List.{length-take, length-take-le}
use Rattle.bench.specs.declared.fresh.Fresh.{Fresh}
use Rattle.bench.specs.Setups.{fresh_bench}
use Rattle.bench.proofs.SetupLaws.{fresh-bench}
use Rattle.delivery.specs.Limits.{limits}
use Rattle.schedule.specs.Files.{most_events}
use Rattle.schedule.specs.Private.{report_lines}
use Rattle.schedule.specs.Prints.{printed}
use Rattle.schedule.proofs.PlayLaws.{print-taken, count-taken, boards-taken}
use Rattle.schedule.proofs.report.Report.play.Goals as goal

pub slice_bounds-report-end : goal.slice_bounds-report-end
slice_bounds-report-end c =
    let s = c.args.schedule in
    let few = count-taken c.args.file.now s c.requires in
    omega (arith, few, c.play_on.auto.answers, length-take s.count c.play_on.new.answers)

pub fit-requires : goal.fit-requires
fit-requires c =
    let s = c.args.schedule in
    let few : s.count ≤ most_events = count-taken c.args.file.now s c.requires in
    let long : s.count ≤ length c.play_on.new.answers = omega (arith, few, c.play_on.auto.answers) in
    (rw (length-take-le s.count c.play_on.new.answers long) few, boards-taken c.args.file.now s c.requires)

pub returns : goal.returns
returns c =
    let bs = c.args.file.now in
    let s = c.args.schedule in
    let few : s.count ≤ most_events = count-taken bs s c.requires in
    let begun : c.fresh-made.result.bench ≡ fresh_bench limits s.bus.n s.bus.marks =
    ap (λ (x : Fresh). x.bench) c.fresh-made.ensures ∙ fresh-bench limits s.bus.n s.bus.marks in
    let text : report_lines limits s.bus.n (take s.count c.play_on.new.answers) c.play_on.new.bench ≡ printed limits bs =
    rw (c.play_on.ensures.answers, c.play_on.ensures.bench, begun, part_to_end bs s.start)
    (print-taken bs s c.requires (replicate most_events 0) (omega (arith, few))) in
    record {
      answer = rw text at c.fit.ensures.answer;
      buffer = rw text at c.fit.ensures.buffer;
      within = rw text at c.fit.ensures.within;
      fits = c.fit.ensures.fits;
    }
