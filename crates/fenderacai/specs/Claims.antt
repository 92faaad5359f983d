-- What is claimed of every trace: how many words it has. src/claims shows it.
use Rattle.std.specs.Prelude.{ℕ, ◌+◌, ◌*◌, ◌≡◌, List, length}
use Rattle.delivery.specs.Limits.{limits}
use Rattle.bench.specs.declared.bench.Bench.{Bench}
use Rattle.schedule.specs.Files.{got, Contents, file_due}
use Rattle.fenderacai.specs.Rows.{row}
use Rattle.fenderacai.specs.Traces.{traced}

-- each row has as many words as any other
abbrev pub RowWords : Type 0
RowWords = (answer : ℕ) (c : Bench) → length (row limits answer c) ≡ 4091

-- and of a file that is taken there is a row for the fresh bench and one for each event
abbrev pub TraceWords : Type 0
TraceWords = (bs : List ℕ) (f : Contents) (rest : List ℕ) → file_due limits bs ≡ got f rest
    → length (traced limits bs) ≡ 4091 * (1 + length f.events)
