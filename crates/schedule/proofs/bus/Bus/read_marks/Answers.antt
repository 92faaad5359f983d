-- `Bus::read_marks` meets its contract. Assumes nothing.
use Prim.Native.Nat.{◌<◌}
use native.Mathlib.Omega.{arith}
use mathlib.Core.Path.{◌≡◌, sym, ap, ◌∙◌}
use lib.ListN.{length, get_or}
use Rattle.bench.specs.Setups.{is_mark}
use Rattle.schedule.proofs.SectionLaws.{marks-next, padded-next}
use Rattle.schedule.proofs.bus.Bus.read_marks.Goals as goal

pub loop-k-preserved : goal.loop-k-preserved
loop-k-preserved c =
    let l = c.loop-k in
    let bs = c.args.bytes.now in
    let mark = c.in_ok-mark.field-0.now in
    let there : l.k < length bs = grind arith in
    let is : mark ≡ get_or bs l.k 0 = grind arith in
    record {
      there = omega (arith, there);
      read = rw (l.invariant.read, is) (padded-next c.args.n l.k bs l.invariant.all there (omega arith));
      all = marks-next c.args.n l.k bs l.invariant.all there (ap is_mark (sym is) ∙ sym c.if-not-is_mark.ensures);
    }
