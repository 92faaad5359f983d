-- Each claim is a law. Assumes nothing.
use Rattle.fenderacai.proofs.TraceLaws.{row-words, trace-words}
use Rattle.fenderacai.proofs.claims.every_trace.Goals as goal

pub returns-clause-row : goal.returns-clause-row
returns-clause-row c = row-words

pub returns-clause-trace : goal.returns-clause-trace
returns-clause-trace c = trace-words
