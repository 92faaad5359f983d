-- `fenderacai_apply` meets its contract: what is played of a file that was read is what the file is answered. Assumes nothing.
use native.Mathlib.Omega.{arith}
use Prim.Native.Nat.{◌≤◌}
use lib.ListN.{length}
use mathlib.Core.Path.{◌≡◌, refl, sym, ap, ◌∙◌}
use borrow.Author.Rules.{part_to_end}
use Rattle.delivery.specs.Limits.{limits}
use Rattle.bench.specs.Setups.{fresh_bench}
use Rattle.bench.specs.declared.fresh.Fresh.{Fresh}
use Rattle.bench.specs.Runs.{written}
use Rattle.bench.proofs.SetupLaws.{fresh-bench}
use Rattle.bench.proofs.RunLaws.{sets-written}
use Rattle.schedule.proofs.PrintLaws.{put-none, buffer-short, buffer-written}
use Rattle.applying_c.specs.Answered.{answered}
use Rattle.applying_c.proofs.AnsweredLaws.{refused-answered, taken-answered, length-answered, events-fit}
use Rattle.applying_c.proofs.fenderacai_apply.Goals as goal

pub returns-in_default-clause-buffer : goal.returns-in_default-clause-buffer
returns-in_default-clause-buffer c =
    rw (refused-answered _ c.in_default.field-0 (sym c.read.ensures.meaning ∙ c.in_default.is)) (buffer-written (omega arith) put-none)

pub play-requires-clause-events : goal.play-requires-clause-events
play-requires-clause-events c =
    rw part_to_end (events-fit _ c.in-Ok.field-0 (sym c.read.ensures.meaning ∙ c.in-Ok.is))

pub returns-then-count-out-clause-length : goal.returns-then-count-out-clause-length
returns-then-count-out-clause-length c = sym (length-answered _ _ (sym c.read.ensures.meaning ∙ c.in-Ok.is))

pub returns-then-count-out-clause-buffer : goal.returns-then-count-out-clause-buffer
returns-then-count-out-clause-buffer c =
    let bs = c.args.file.now in
    let out = c.args.out.now in
    let s = c.in-Ok.field-0 in
    let read = sym c.read.ensures.meaning ∙ c.in-Ok.is in
    let begun : c.fresh.result.bench ≡ fresh_bench limits s.bus.n s.bus.marks =
    ap (λ (x : Fresh). x.bench) c.fresh.ensures ∙ fresh-bench limits s.bus.n s.bus.marks in
    let told : c.play.new.answers ≡ written (answered limits bs) out =
    rw (← taken-answered bs s read) (rw (begun, part_to_end bs s.start) at c.play.ensures) in
    let fits : length (answered limits bs) ≤ length out = omega (arith, length-answered bs s read, c.if-count-out.true) in
    told ∙ sym (sets-written _ out fits) ∙ buffer-written fits (record { place = refl; bytes = refl })

pub returns-else-count-out-clause-length : goal.returns-else-count-out-clause-length
returns-else-count-out-clause-length c = sym (length-answered _ _ (sym c.read.ensures.meaning ∙ c.in-Ok.is))

pub returns-else-count-out-clause-buffer : goal.returns-else-count-out-clause-buffer
returns-else-count-out-clause-buffer c =
    let l = length-answered _ _ (sym c.read.ensures.meaning ∙ c.in-Ok.is) in
    buffer-short _ c.args.out.now (omega (arith, l, c.if-count-out.false))
