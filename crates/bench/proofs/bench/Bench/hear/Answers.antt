-- `Bench::hear` meets its contract. Assumes nothing.
use mathlib.Core.Path.{refl}
use Rattle.std.proofs.Common.{rules}
use Rattle.delivery.specs.Limits.{limits}
use Rattle.vote.specs.Boards.{deliver_to}
use Rattle.bench.specs.Benches.{board_at}
use Rattle.bench.specs.Effects.{after_hearing, with_board_at, with_owed}
use Rattle.bench.proofs.bench.Bench.hear.Goals as goal

pub returns : goal.returns
unfolding after_hearing with_board_at with_owed board_at
returns c = rw (c.change.ensures (λ b. deliver_to limits b c.args.s) (λ b told. search rules), c.record_delivery.ensures, c.from.ensures, c.holders-have.ensures) refl
