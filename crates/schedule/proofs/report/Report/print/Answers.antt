-- `Report::print` meets its contract: the buffer has room for the longest report. Assumes nothing.
use mathlib.Core.Path.{◌≡◌, sym, ap, subst⁻¹, ◌∙◌}
use native.Mathlib.Omega.{arith}
use lib.ListN.{length, take}
use Rattle.std.proofs.Common.{rules}
use Rattle.std.specs.Prelude.{Ok}
use Rattle.delivery.specs.Limits.{limits}
use Rattle.schedule.specs.Prints.{report_from, printed}
use Rattle.schedule.specs.Claims.{Reports}
use Rattle.schedule.proofs.PrintLaws.{never-short, text-first, told-written}
use Rattle.schedule.proofs.report.Report.print.Goals as goal

pub unreachable-requires : goal.unreachable-requires
unreachable-requires c =
    never-short _ (length c.args.out.now) c.in_default.field-0 (omega (arith, c.write.ensures.within)) (sym c.in_default.is ∙ c.write.ensures.answer)

pub returns : goal.returns
returns c =
    let file = c.args.file.now in
    let r = c.in-Ok.length in
    let is : Ok r ≡ report_from (printed limits file) (length c.args.out.now) = sym c.in-Ok.is ∙ c.write.ensures.answer in
    let told : r ≡ length (printed limits file) = told-written _ (length c.args.out.now) r is in
    let text : take r c.write.new.out ≡ printed limits file =
    ap (λ m. take m c.write.new.out) told
    ∙ ap (take _) c.write.ensures.buffer
    ∙ text-first _ c.args.out.now (omega (arith, c.write.ensures.within)) in
    record { length = told; buffer = c.write.ensures.buffer; fits = search rules; text = text; reports = subst⁻¹ (Reports file) text c.write.ensures.reports }
