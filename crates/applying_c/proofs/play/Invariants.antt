-- The loop's invariant of `play`: playing the events that are left, and writing their answers, gives what playing them all
-- gives.
use Prim.Native.Nat.{◌-◌, ◌*◌}
use mathlib.Core.Path.{◌≡◌}
use lib.ListN.{length, drop}
use lib.Seq.{sets}
use Rattle.delivery.specs.Limits.{limits}
use Rattle.bench.specs.Events.{event_bytes}
use Rattle.bench.specs.Runs.{answers_to, events_in}
use Rattle.applying_c.proofs.play.Given as goal

abbrev pub invariant-loop-k : goal.invariant-loop-k
invariant-loop-k l =
    (length l.answers ≡ length l.fn.answers)
    × (sets l.answers l.k (answers_to limits l.bench (events_in (l.count - l.k) (drop (event_bytes * l.k) l.events)))
    ≡ sets l.fn.answers 0 (answers_to limits l.fn.bench (events_in l.count l.events)))
