-- Each claim is a law. Assumes nothing.
use Rattle.vote.proofs.ActLaws.{rule-said, turn-said}
use Rattle.vote.proofs.claims.every_turn.Goals as goal

pub returns-clause-moves : goal.returns-clause-moves
returns-clause-moves c = rule-said

pub returns-clause-turns : goal.returns-clause-turns
returns-clause-turns c = turn-said
