-- What is claimed of every list of events, which the open call `every_list` promises.
use Rattle.std.specs.Prelude.{ℕ, List, length}
use Rattle.delivery.specs.Limits.{limits}
use Rattle.bench.specs.Runs.{bench_after, answers_from, events_played}
use Rattle.bench.specs.Story.{History, history_of}
use Rattle.bench.specs.Claim.{Agreement}
use Rattle.bench.specs.declared.event.Event.{Event}

-- the history of a list of events that the machine plays from n and the marks
abbrev pub history_from : ℕ → List ℕ → List Event → History
history_from n marks es = history_of es (answers_from limits n marks es)

pub record Agreeing : Type 0 where
  pub agrees : (n : ℕ) (marks : List ℕ) (es : List Event)
      → Agreement limits n marks (history_from n marks es) (bench_after limits n marks es)

-- the history of a list that was lent as bytes: its events, with the answers as they stand in the buffer afterwards
abbrev pub played_history : List ℕ → List ℕ → History
played_history bs buf = history_of (events_played bs (length buf)) buf
