-- `Bench::step` meets its contract: where there is no such kind the answer is the table's. Assumes nothing.
use native.Mathlib.Omega.{arith}
use Rattle.delivery.specs.Limits.{limits}
use Rattle.bench.specs.Effects.{step_of}
use Rattle.bench.proofs.TableLaws.{kind-stops}
use Rattle.bench.proofs.bench.Bench.step.Goals as goal

pub returns-in_err-try_from-clause-answer : goal.returns-in_err-try_from-clause-answer
unfolding step_of
returns-in_err-try_from-clause-answer c =
    let stop = kind-stops limits c.args.self.now c.args.e c.in_err-try_from.field-0.0 in
    grind (arith, stop, c.try_from.ensures)
