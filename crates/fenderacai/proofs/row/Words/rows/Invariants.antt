-- The loop's invariant of `Words::rows`: the rows of the first events are put, and the bench is the one after them.
use mathlib.Core.Path.{◌≡◌}
use Rattle.delivery.specs.Limits.{limits}
use Rattle.bench.specs.Runs.{after, events_in}
use Rattle.schedule.specs.Private.{Puts}
use Rattle.fenderacai.specs.Traces.{rows_of}
use Rattle.fenderacai.proofs.row.Words.rows.Given as goal

abbrev pub invariant-loop-k : goal.invariant-loop-k
invariant-loop-k l =
    Puts (rows_of limits l.fn.bench (events_in l.k l.events)) l.fn.self.out l.fn.self.length l.self.out l.self.length
    × (l.bench ≡ after limits l.fn.bench (events_in l.k l.events))
