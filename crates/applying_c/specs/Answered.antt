-- What a schedule file is answered: the numbers of the answers to its events, played one after another from the fresh bench of
-- its marks. A file that is refused has no events to answer.
use Rattle.std.specs.Prelude.{ℕ, List, [], Ok, Err}
use Rattle.delivery.specs.Limits.{Limits}
use Rattle.bench.specs.Runs.{answers_to}
use Rattle.schedule.specs.Files.{Reading, Contents, first_bench, file_due}

unfoldable pub answered_from : Limits → Reading Contents → List ℕ
answered_from L (Ok (f, rest)) = answers_to L (first_bench L f) f.events
answered_from L (Err f) = []

abbrev pub answered : Limits → List ℕ → List ℕ
answered L bs = answered_from L (file_due L bs)
