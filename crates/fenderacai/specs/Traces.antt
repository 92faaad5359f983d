-- What playing a schedule file writes of it in words: a row for the fresh bench, with 0 for its answer, and one for each
-- event, with its answer and the bench after it. A file that is refused has no row.
use Rattle.std.specs.Prelude.{ℕ, List, [], ◌++◌, Ok, Err}
use Rattle.std.specs.List.{flat_map}
use Rattle.delivery.specs.Limits.{Limits}
use Rattle.bench.specs.Answers.{answer_number}
use Rattle.bench.specs.Runs.{steps}
use Rattle.bench.specs.declared.bench.Bench.{Bench}
use Rattle.bench.specs.declared.event.Event.{Event}
use Rattle.bench.specs.declared.effect.Outcome.{Outcome}
use Rattle.schedule.specs.Files.{Reading, Contents, first_bench, file_due}
use Rattle.fenderacai.specs.Rows.{row}

-- the rows of a run
unfoldable pub rows_of : Limits → Bench → List Event → List ℕ
rows_of L c es = flat_map (λ (o : Outcome). row L (answer_number o.answer) o.bench) (steps L c es)

-- a file's trace
unfoldable pub traced_from : Limits → Reading Contents → List ℕ
traced_from L (Ok (f, rest)) =
    let c = first_bench L f in row L 0 c ++ rows_of L c f.events
traced_from L (Err f) = []

abbrev pub traced : Limits → List ℕ → List ℕ
traced L bs = traced_from L (file_due L bs)
