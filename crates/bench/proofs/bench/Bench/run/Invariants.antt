-- The loop's invariant of `Bench::run`: playing the events that are left, and writing their answers, gives what playing
-- them all gives.
use Prim.Native.Nat.{◌-◌, ◌*◌, ◌/◌}
use mathlib.Core.Path.{◌≡◌}
use lib.ListN.{length, drop}
use lib.Seq.{sets}
use Rattle.delivery.specs.Limits.{limits}
use Rattle.bench.specs.Events.{event_bytes}
use Rattle.bench.specs.Runs.{after, answers_to, events_in}
use Rattle.bench.proofs.bench.Bench.run.Given as goal

abbrev pub invariant-loop-k : goal.invariant-loop-k
invariant-loop-k l = record {
  room : length l.answers ≡ length l.fn.answers;
  size : l.k-iterator.iter.size ≡ event_bytes;
  rest : l.k-iterator.iter.rest.now ≡ drop (event_bytes * l.k-iterator.count) l.events;
  left : length l.k-iterator.iter.rest.now ≡ length l.events - event_bytes * l.k-iterator.count;
  bench : after limits l.self (events_in (length l.events / event_bytes - l.k-iterator.count) (drop (event_bytes * l.k-iterator.count) l.events))
      ≡ after limits l.fn.self (events_in (length l.events / event_bytes) l.events);
  answers : sets l.answers l.k-iterator.count (answers_to limits l.self (events_in (length l.events / event_bytes - l.k-iterator.count) (drop (event_bytes * l.k-iterator.count) l.events)))
      ≡ sets l.fn.answers 0 (answers_to limits l.fn.self (events_in (length l.events / event_bytes) l.events));
}
