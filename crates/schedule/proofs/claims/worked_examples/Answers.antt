-- Each list of examples is computed. Assumes nothing.
use Rattle.schedule.proofs.ExampleLaws.{letters, played-files, refused-files}
use Rattle.schedule.proofs.claims.worked_examples.Goals as goal

pub returns-clause-letters : goal.returns-clause-letters
returns-clause-letters c = letters

pub returns-clause-played_files : goal.returns-clause-played_files
returns-clause-played_files c = played-files

pub returns-clause-refused_files : goal.returns-clause-refused_files
returns-clause-refused_files c = refused-files
