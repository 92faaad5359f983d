-- Document 01, "Events" and "Schedule file and program": a list of events, one after another, and the bytes of a list.
use Rattle.std.specs.Prelude.{ℕ, zero, suc, ◌/◌, ◌%◌, List, [], ◌∷◌, ◌++◌, map, Result, Ok, Err, length, drop, if◌then◌else◌, ◌==◌, nat_le}
use Rattle.delivery.specs.Limits.{Limits}
use Rattle.bench.specs.Events.{event_bytes, event_from}
use Rattle.bench.specs.Setups.{fresh_answer, fresh_bench}
use Rattle.bench.specs.Answers.{answer_number}
use Rattle.bench.specs.Effects.{step_of}
use Rattle.bench.specs.declared.bench.Bench.{Bench}
use Rattle.bench.specs.declared.event.Event.{Event}
use Rattle.bench.specs.declared.effect.Outcome.{Outcome}
use Rattle.bench.specs.declared.play.Played.{Played}
use Rattle.bench.specs.declared.play.Unplayed.{Unplayed}
use Rattle.bench.specs.declared.play.Unplayed.TheVariants.{Ragged, Short}

-- A run: what comes of each event of a list. Each is played on the bench that the one before it left behind.
unfoldable pub steps : Limits → Bench → List Event → List Outcome
steps L c [] = []
steps L c (e ∷ es) = step_of L c e ∷ steps L (step_of L c e).bench es

-- the last of a list, or a where there is none
unfoldable pub last_of : {A : Type 0} → A → List A → A
last_of a [] = a
last_of a (x ∷ xs) = last_of x xs

-- the bench after a run that began on c, and the numbers of its answers
unfoldable pub after : Limits → Bench → List Event → Bench
after L c es = last_of c (map (λ (o : Outcome). o.bench) (steps L c es))

unfoldable pub answers_to : Limits → Bench → List Event → List ℕ
answers_to L c es = map (λ (o : Outcome). answer_number o.answer) (steps L c es)

-- the same from the fresh bench of n boards and their marks
abbrev pub bench_after : Limits → ℕ → List ℕ → List Event → Bench
bench_after L n marks es = after L (fresh_bench L n marks) es

abbrev pub answers_from : Limits → ℕ → List ℕ → List Event → List ℕ
answers_from L n marks es = answers_to L (fresh_bench L n marks) es

-- so many events, from the bytes at the head of a list
unfoldable pub events_in : ℕ → List ℕ → List Event
events_in zero bs = []
events_in (suc k) bs = event_from bs ∷ events_in k (drop event_bytes bs)

-- a list of bytes is played if they are whole events and there is room for the answers
unfoldable pub ending_of : ℕ → ℕ → Result (Unit {0}) Unplayed
ending_of bytes room =
    if bytes % event_bytes == 0 then (if nat_le (bytes / event_bytes) room then Ok tt else Err Short) else Err Ragged

-- the events that are played
unfoldable pub played_by : Result (Unit {0}) Unplayed → List ℕ → List Event
played_by (Ok _) bs = events_in (length bs / event_bytes) bs
played_by (Err _) bs = []

abbrev pub events_played : List ℕ → ℕ → List Event
events_played bs room = played_by (ending_of (length bs) room) bs

-- some bytes in place of the first of a list
unfoldable pub written : List ℕ → List ℕ → List ℕ
written xs ys = xs ++ drop (length xs) ys

-- playing a list of bytes into a fresh bench: what is handed back, and the bytes lent for the answers as they then are
unfoldable pub played_of : Limits → ℕ → List ℕ → List ℕ → ℕ → Played
played_of L n marks bs room =
    record {
      bench = bench_after L n marks (events_played bs room);
      answer = fresh_answer L n marks;
      ending = ending_of (length bs) room;
    }

unfoldable pub answers_after : Limits → ℕ → List ℕ → List ℕ → List ℕ → List ℕ
answers_after L n marks bs buf = written (answers_from L n marks (events_played bs (length buf))) buf
