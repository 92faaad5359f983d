-- `play` meets its contract: the part that is handed on is that of its events. Assumes nothing.
use mathlib.Core.Path.{subst}
use mathlib.Core.List.{List}
use Rattle.std.specs.Prelude.{ℕ}
use Rattle.delivery.specs.Limits.{limits}
use Rattle.bench.specs.Claim.{Agreement}
use Rattle.bench.specs.Demands.{played_history}
use Rattle.schedule.proofs.player.play.Goals as goal

pub returns-clause-agreement : goal.returns-clause-agreement
returns-clause-agreement c =
    let a = c.args in
    subst
    (λ (bs : List ℕ). Agreement limits a.n a.marks (played_history bs c.play.new.answers) c.play.result.bench)
    c.events_of.ensures
    c.play.ensures.agreement
