-- The examples, as they were computed. Assumes nothing.
use Rattle.vote.proofs.ExampleLaws.{examples}
use Rattle.vote.proofs.claims.worked_examples.Goals as goal

pub returns : goal.returns
returns c = examples
