-- `Bench::take` meets its contract: the answer is the table's. Assumes nothing.
use native.Mathlib.Omega.{arith}
use mathlib.Core.Path.{◌≡◌}
use mathlib.Core.Bool.{false}
use Rattle.delivery.specs.Limits.{limits}
use Rattle.bench.specs.Table.{kind_row}
use Rattle.bench.specs.Effects.{step_of}
use Rattle.bench.proofs.TableLaws.{kind-passes}
use Rattle.bench.proofs.RowLaws.{rows-stop, rows-pass}
use Rattle.bench.proofs.bench.Bench.take.Goals as goal

pub returns-in_err-check_rows-clause-answer : goal.returns-in_err-check_rows-clause-answer
unfolding step_of
returns-in_err-check_rows-clause-answer c =
    let e = c.of-known.result in
    let kind : kind_row e ≡ false = rw c.of-known.ensures (kind-passes c.args.e c.args.kind) in
    let stop = rows-stop limits c.args.self.now e kind c.in_err-check_rows.field-0.0 in
    grind (arith, stop, c.of-known.ensures, c.check_rows.ensures)

pub returns-clause-answer : goal.returns-clause-answer
unfolding step_of
returns-clause-answer c =
    let e = c.of-known.result in
    let kind : kind_row e ≡ false = rw c.of-known.ensures (kind-passes c.args.e c.args.kind) in
    let pass = rows-pass limits c.args.self.now e kind c.in_ok-check_rows.field-0 in
    grind (arith, pass, c.of-known.ensures, c.check_rows.ensures, c.effect.ensures.answer)
