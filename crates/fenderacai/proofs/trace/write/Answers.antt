-- `trace::write` meets its contract: a file that is refused has no row; of another the row of the fresh bench and those of
-- the events are its trace. Assumes nothing.
use native.Mathlib.Omega.{arith}
use mathlib.Core.Path.{◌≡◌, sym, ap, ◌∙◌}
use borrow.Author.Rules.{part_to_end}
use Rattle.delivery.specs.Limits.{limits}
use Rattle.bench.specs.Setups.{fresh_bench}
use Rattle.bench.specs.declared.fresh.Fresh.{Fresh}
use Rattle.bench.proofs.SetupLaws.{fresh-bench}
use Rattle.schedule.specs.Private.{PutAt}
use Rattle.std.proofs.Common.{rules}
use Rattle.schedule.proofs.PrintLaws.{put-none, put_then, put_size, buffer-short, buffer-written}
use Rattle.fenderacai.specs.Traces.{traced}
use Rattle.fenderacai.proofs.RowLaws.{length-row}
use Rattle.fenderacai.proofs.TraceLaws.{trace-played, length-traced, refused-traced, events-fit}
use Rattle.fenderacai.proofs.trace.write.Goals as goal

pub returns-in_default-clause-buffer : goal.returns-in_default-clause-buffer
returns-in_default-clause-buffer c =
    rw (refused-traced _ c.in_default.field-0 (sym c.read.ensures.meaning ∙ c.in_default.is)) (buffer-written (omega arith) put-none)

pub returns-then-length-out-clause-length : goal.returns-then-length-out-clause-length
returns-then-length-out-clause-length c = sym (length-traced _ _ (sym c.read.ensures.meaning ∙ c.in-Ok.is))

pub returns-then-length-out-clause-buffer : goal.returns-then-length-out-clause-buffer
returns-then-length-out-clause-buffer c =
    let l = length-traced _ _ (sym c.read.ensures.meaning ∙ c.in-Ok.is) in
    buffer-short _ c.args.out.now (omega (arith, l, c.if-length-out.true))

pub rows-requires : goal.rows-requires
rows-requires c =
    let s = c.in-Ok.field-0 in
    record {
      events = rw part_to_end (events-fit _ s (sym c.read.ensures.meaning ∙ c.in-Ok.is));
      room = omega (arith, put_size c.row.ensures.text, length-row c.fresh-made.result.bench 0, c.if-length-out.false);
    }

-- the row of the fresh bench and those of the events are put
pub returns : goal.returns
returns c =
    let bs = c.args.file.now in
    let s = c.in-Ok.field-0 in
    let read = sym c.read.ensures.meaning ∙ c.in-Ok.is in
    let begun : c.fresh-made.result.bench ≡ fresh_bench limits s.bus.n s.bus.marks =
    ap (λ (x : Fresh). x.bench) c.fresh-made.ensures ∙ fresh-bench limits s.bus.n s.bus.marks in
    let rows = put_then c.row.ensures.text (rw (part_to_end bs s.start) at c.rows.ensures.text) in
    let text : PutAt (traced limits bs) c.args.out.now 0 c.rows.new.self.out.now c.rows.new.self.length =
    rw (← trace-played bs s read) (rw begun at rows) in
    let l = length-traced bs s read in
    let written = buffer-written (omega (arith, l, c.if-length-out.false)) text in
    record { length = omega (arith, text.place); buffer = search (rules, written) }
