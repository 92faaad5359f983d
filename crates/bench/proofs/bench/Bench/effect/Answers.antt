-- `Bench::effect` meets its contract: the boards that are told something. Assumes nothing.
use native.Mathlib.Omega.{arith}
use borrow.Author.Rules.{rules}
use Rattle.vote.specs.Boards.{with_status, propose, suspect, trust}
use Rattle.vote.specs.declared.board.Board.{Board}
use Rattle.vote.specs.declared.board.Status.TheVariants.{Decided}
use Rattle.bench.specs.Events.{kind_number}
use Rattle.bench.specs.Effects.{effect_of}
use Rattle.bench.specs.Private.{announced}
use Rattle.bench.proofs.bench.Bench.effect.Goals as goal

pub returns-in-Propose-clause-ok : goal.returns-in-Propose-clause-ok
unfolding kind_number effect_of
returns-in-Propose-clause-ok c =
    grind (arith, c.change.ensures (λ b. propose b c.e.inside.value) (λ b told. search rules))

pub returns-in-Announce-clause-ok : goal.returns-in-Announce-clause-ok
unfolding kind_number effect_of
returns-in-Announce-clause-ok c =
    let d = announced c.args.e.now in
    let f = λ (b : Board). with_status b (Decided d) in
    grind (arith, c.requires.announcement, c.change-in-Announce.ensures f (λ b told. search rules))

pub returns-in-Suspect-clause-ok : goal.returns-in-Suspect-clause-ok
unfolding kind_number effect_of
returns-in-Suspect-clause-ok c =
    grind (arith, c.change-in-Suspect.ensures (λ b. suspect b c.e.inside.b) (λ b told. search rules))

pub returns-in-Trust-clause-ok : goal.returns-in-Trust-clause-ok
unfolding kind_number effect_of
returns-in-Trust-clause-ok c =
    grind (arith, c.change-in-Trust.ensures (λ b. trust b c.e.inside.b) (λ b told. search rules))
